pub mod LabelLemmas
pub mod TokenLemmas
pub mod XorLemmas
