-- A settings file has one reading.
use Rattle.std.proofs.Common.{◌≡◌, ℕ, inl, inr, List, None, codes, refl, sym, ◌∙◌, ap, subst}
use Rattle.std.proofs.lemmas.Option.{same_Some}
use Rattle.hex.proofs.HexLemmas.{decode_of-same}
use Rattle.toml.specs.Data.{Members}
use Rattle.ov_base.specs.declared.key.Key.{Key}
use Rattle.ov_base.specs.declared.mode.Mode.{Mode}
use Rattle.ov_base.proofs.Modes.{one_word}
use Rattle.ov_keyfile.specs.KeyFile.{IsKeyLine}
use Rattle.ov_settings.specs.Settings.{AreSettings, HoldsDigits, HoldsNumber, HoldsText, HoldsWorkers, IsMissing, IsSettingsFile, integer_at}
use Rattle.ov_settings.specs.declared.settings.Settings.{Settings}

-- a key has one text
text_once : (m : Members) (key one two : List ℕ) → HoldsText m key one → HoldsText m key two → one ≡ two
text_once m key one two a b = same_Some one two (sym a ∙ b)

-- digits are of one key
digits_once : (m : Members) (key one two : List ℕ) → HoldsDigits m key one → HoldsDigits m key two → one ≡ two
digits_once m key one two (t, at_key, is) (u, at_it, other) =
    let same : u ≡ t = text_once m key u t at_it at_key in
    let there : IsKeyLine t two = subst (λ (line : List ℕ). IsKeyLine line two) same other in
    decode_of-same t one two is.decoded there.decoded

-- a key has one number
number_once : (m : Members) (key : List ℕ) (limit one two : ℕ) → HoldsNumber m key limit one → HoldsNumber m key limit two → one ≡ two
number_once m key limit one two a b =
    let same = same_Some _ _ (sym a.is ∙ b.is) in
    cc

-- a key that is missing has no number
never_both : (m : Members) (key : List ℕ) (limit n : ℕ) → HoldsNumber m key limit n → IsMissing m key → ⊥
never_both m key limit n has none =
    let nothing : integer_at m key ≡ None = rw none in
    cc (has.is, nothing)

workers_once : (m : Members) (one two : ℕ) → HoldsWorkers m one → HoldsWorkers m two → one ≡ two
workers_once m one two (inl a) (inl b) = number_once m (codes "workers") _ one two a b
workers_once m one two (inl a) (inr (none, e)) = absurd (never_both m (codes "workers") _ one a none)
workers_once m one two (inr (none, e)) (inl b) = absurd (never_both m (codes "workers") _ two b none)
workers_once m one two (inr (none, e)) (inr (too, f)) = e ∙ sym f

key_of_bytes : List ℕ → Key
key_of_bytes bytes = record { bytes = bytes }

key_once : (one two : Key) → one.bytes ≡ two.bytes → one ≡ two
unfolding key_of_bytes
key_once one two e = ap key_of_bytes e

-- settings of these values
made : List ℕ → Mode → Key → List ℕ → List ℕ → List ℕ → ℕ → ℕ → Settings
made address mode surface base_check book blobs sessions workers =
    record { address = address; mode = mode; surface = surface; base_check = base_check; book = book; blobs = blobs; sessions = sessions; workers = workers }

made_of : (s : Settings) → made s.address s.mode s.surface s.base_check s.book s.blobs s.sessions s.workers ≡ s
unfolding made
made_of s = refl

values_once : (m : Members) (one two : Settings) → AreSettings m one → AreSettings m two → one ≡ two
values_once m one two a b =
    let address : one.address ≡ two.address = text_once m (codes "address") _ _ a.address b.address in
    let mode : one.mode ≡ two.mode = one_word _ _ (text_once m (codes "mode") _ _ a.mode b.mode) in
    let surface : one.surface ≡ two.surface = key_once _ _ (digits_once m (codes "surface") _ _ a.surface b.surface) in
    let base : one.base_check ≡ two.base_check = digits_once m (codes "base_check") _ _ a.base_check b.base_check in
    let book : one.book ≡ two.book = text_once m (codes "book") _ _ a.book b.book in
    let blobs : one.blobs ≡ two.blobs = text_once m (codes "blobs") _ _ a.blobs b.blobs in
    let sessions : one.sessions ≡ two.sessions = number_once m (codes "sessions") _ _ _ a.sessions b.sessions in
    let workers : one.workers ≡ two.workers = workers_once m _ _ a.workers b.workers in
    cc (made_of one, made_of two)

-- the document is one, and so are the values
pub one_reading : (bytes : List ℕ) (one two : Settings) → IsSettingsFile bytes one → IsSettingsFile bytes two → one ≡ two
one_reading bytes one two a b =
    let same : b.document ≡ a.document = same_Some _ _ (sym b.is.reads ∙ a.is.reads) in
    values_once a.document one two a.values (subst (λ (m : Members). AreSettings m two) same b.values)
