pub mod FormLaws
pub mod FieldLaws
pub mod GrammarLaws
pub mod CertificateLaws
pub mod FrameLaws
pub mod WriteLaws
