-- The definitions and lemmas that the proofs of crates above cite, passed on from one place. Declares nothing.
pub use Rattle.cert_values.specs.CertificateTexts.{IsCertificateText}
pub use Rattle.cert_values.specs.Certificates.{Certificate, IsClaim, IsInjectiveShape, IsNear, IsRankShape, IsSideShape, IsSumShape, IsSurjectiveShape}
pub use Rattle.cert_values.specs.Evidence.{InjectiveEvidence, SideEvidence, SumEvidence, SurjectiveEvidence}
pub use Rattle.cert_values.specs.Evidence.InjectiveEvidence.{Twins, Window}
pub use Rattle.cert_values.specs.Evidence.SideEvidence.{Ahead, Split}
pub use Rattle.cert_values.specs.Evidence.SumEvidence.{Flux, Ring}
pub use Rattle.cert_values.specs.Evidence.SurjectiveEvidence.{Orphan, Pairs, Sets}
pub use Rattle.cert_values.specs.Parts.{IsOver, IsShaped, injective_of, side_of, sum_of, surjective_of}
pub use Rattle.cert_values.specs.Versions.{lists_pairs, names_weights, number_of}
pub use Rattle.cert_values.specs.WrittenTexts.{array_from, certificate_text, certificate_value, claim_value, injective_value, members_before, only, ranks_value, side_value, signed_value, sum_value, surjective_value, tail_value, weights_members, whole_value, word_value}
pub use Rattle.cert_values.proofs.laws.Members.{put_same}
pub use Rattle.cert_values.proofs.laws.Uniqueness.{one_some}
pub use Rattle.cert_values.proofs.laws.WeightMembers.{IsWeightShape-has, weights_members-cases}
