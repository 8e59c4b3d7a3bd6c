pub mod Versions
pub mod Evidence
pub mod Certificates
pub mod CertificateTexts
pub mod ShapeFaults
pub mod WrittenTexts
pub mod Parts
