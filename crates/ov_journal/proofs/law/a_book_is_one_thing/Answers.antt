use Rattle.std.proofs.Common.{◌≡◌, inl, inr, ℕ, ◌≤◌, List, take, get_or, sym, ◌∙◌, ap, arith, lit<}
use Rattle.std.proofs.lemmas.List.{get_or-take}
use Rattle.ov_base.specs.declared.mode.Mode.{Mode}
use Rattle.ov_base.specs.declared.mode.Mode.TheVariants.{Full, Delta}
use Rattle.ov_base.specs.Modes.{mode_byte}
use Rattle.ov_journal.specs.declared.header.Header.{Header}
use Rattle.ov_journal.specs.Book.{spelled}
use Rattle.ov_journal.specs.Standing.{IsUnborn, HasMagic, HasNoMode}
use Rattle.ov_journal.proofs.law.a_book_is_one_thing.Goals as goal

apart : (book : List ℕ) → IsUnborn book → HasMagic book → ⊥
apart book (inl short) store = omega (arith, short, store.long)
apart book (inr unborn) store = unborn.1 store.open_gate

least : (mode : Mode) → mode_byte mode ≤ 1
least Full = omega arith
least Delta = omega arith

has_mode : (book : List ℕ) (header : Header) → take 78 book ≡ spelled header → HasNoMode book → ⊥
has_mode book header is none =
    let byte : get_or book 9 0 ≡ mode_byte header.mode = sym (get_or-take 78 book 9 0 (lit< tt)) ∙ ap (λ (l : List ℕ). get_or l 9 0) is in
    omega (arith, none.1, byte, least header.mode)

pub returns : goal.returns
returns c book = (apart book, has_mode book)
