pub mod CoatLaws
