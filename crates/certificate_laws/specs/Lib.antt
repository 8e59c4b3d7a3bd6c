pub mod LeastEvidence
pub mod WrittenCertificates
