-- Laws of whole readings: one more command, the end, and that a text has one reading.
use Rattle.std.proofs.Common.{◌≡◌, ℕ, ◌+◌, ◌-◌, ◌<◌, ◌≤◌, List, [], ◌∷◌, ◌++◌, length, take, refl, sym, ◌∙◌, ap, subst, append-nil, length-append, arith}
use Rattle.std.proofs.Math.Seq.{take-append-add}
use Rattle.ov_script.specs.declared.command.Command.{Command}
use Rattle.ov_script.specs.Items.{IsItem, CanBegin}
use Rattle.ov_script.specs.Reading.{IsBad, cut, wrong, IsTooLong, Reads, BeginsWith, Ending, AtEnd, BadAt, TooLong}
use Rattle.ov_script.specs.LineFeeds.{lf_count}
use Rattle.ov_script.proofs.Grammar.{item_once, item_some}

-- one more command
pub BeginsWith-more : (line room : ℕ) (text : List ℕ) (commands : List Command) (line' room' : ℕ) (rest : List ℕ) (item more : List ℕ) (command : Command)
    → BeginsWith line room text commands line' room' rest → rest ≡ item ++ more → length item ≤ room' → IsItem item command
    → BeginsWith line room text (commands ++ command ∷ []) (line' + lf_count item) (room' - length item) more
BeginsWith-more line room text [] line' room' rest item more command (l, r, t) e fits is =
    (item, more, t ∙ e, subst (λ n. length item ≤ n) r fits, is, (ap (λ n. n + lf_count item) l, ap (λ n. n - length item) r, refl))
BeginsWith-more line room text (first ∷ commands) line' room' rest item more command f e fits is =
    (f.0, f.1, f.2, f.3, f.4, BeginsWith-more (line + lf_count f.0) (room - length f.0) f.1 commands line' room' rest item more command f.5 e fits is)

-- how a reading ends
pub BeginsWith-ends : (line room : ℕ) (text : List ℕ) (commands : List Command) (line' room' : ℕ) (rest : List ℕ) (ending : Ending)
    → BeginsWith line room text commands line' room' rest → Reads line' room' rest [] ending → Reads line room text commands ending
BeginsWith-ends line room text [] line' room' rest AtEnd (l, r, t) end = t ∙ end
BeginsWith-ends line room text [] line' room' rest (BadAt n) (l, r, t) end = (end.0 ∙ l, subst (λ m. IsBad m text) r (subst (IsBad room') (sym t) end.1))
BeginsWith-ends line room text [] line' room' rest TooLong (l, r, t) end = subst (λ m. IsTooLong m text) r (subst (IsTooLong room') (sym t) end)
BeginsWith-ends line room text (first ∷ commands) line' room' rest ending f end =
    (f.0, f.1, f.2, f.3, f.4, BeginsWith-ends (line + lf_count f.0) (room - length f.0) f.1 commands line' room' rest ending f.5 end)

-- a front that there is room for stays
pub front_kept : (xs ys : List ℕ) (room : ℕ) → length xs ≤ room → (z : List ℕ) × (take room (xs ++ ys) ≡ xs ++ z)
front_kept xs ys room h =
    let split : room ≡ length xs + (room - length xs) = omega arith in
    (take (room - length xs) ys, ap (λ n. take n (xs ++ ys)) split ∙ take-append-add xs ys (room - length xs))

-- where there is an item that there is room for, nothing is bad
not_bad : (room : ℕ) (text item more : List ℕ) (command : Command) → text ≡ item ++ more → length item ≤ room → IsItem item command → IsBad room text → ⊥
not_bad room text item more command e fits is (cut some whole none) = none (item, more, command, e, is)
not_bad room text item more command e fits is (wrong past never) =
    let kept = front_kept item more room fits in
    never ([], (item, kept.0, command, append-nil (take room text) ∙ ap (take room) e ∙ kept.1, is))

-- where an item is there that there is room for, the reading doesn't end
pub goes_on : (line room : ℕ) (text item more : List ℕ) (command : Command) (ending : Ending)
    → text ≡ item ++ more → length item ≤ room → IsItem item command → Reads line room text [] ending → ⊥
goes_on line room text item more command AtEnd e fits is end =
    let some : 0 < length item = item_some item command is in
    let none : length text ≡ 0 = ap length end in
    let whole : length text ≡ length item + length more = ap length e ∙ length-append item more in
    absurd (omega arith)
goes_on line room text item more command (BadAt n) e fits is end = not_bad room text item more command e fits is end.1
goes_on line room text item more command TooLong e fits is end =
    let past : room < length item = end.none_fits item more command e is in
    absurd (omega arith)

bad_some : (room : ℕ) (text : List ℕ) → IsBad room text → 0 < length text
bad_some room text (cut some whole none) = some
bad_some room text (wrong past never) = omega arith

bad_or_long : (room : ℕ) (text : List ℕ) → IsBad room text → room < length text → CanBegin (take room text) → ⊥
bad_or_long room text (cut some whole none) past can = absurd (omega arith)
bad_or_long room text (wrong past' never) past can = never can

one_ending : (line room : ℕ) (text : List ℕ) (e f : Ending) → Reads line room text [] e → Reads line room text [] f → e ≡ f
one_ending line room text AtEnd AtEnd p q = refl
one_ending line room text AtEnd (BadAt n) p q =
    let some : 0 < length text = bad_some room text q.1 in
    let none : length text ≡ 0 = ap length p in absurd (omega arith)
one_ending line room text AtEnd TooLong p q =
    let none : length text ≡ 0 = ap length p in let past : room < length text = q.past in absurd (omega arith)
one_ending line room text (BadAt n) AtEnd p q =
    let some : 0 < length text = bad_some room text p.1 in
    let none : length text ≡ 0 = ap length q in absurd (omega arith)
one_ending line room text (BadAt n) (BadAt m) p q = ap BadAt (p.0 ∙ sym q.0)
one_ending line room text (BadAt n) TooLong p q = absurd (bad_or_long room text p.1 q.past q.can)
one_ending line room text TooLong AtEnd p q =
    let none : length text ≡ 0 = ap length q in let past : room < length text = p.past in absurd (omega arith)
one_ending line room text TooLong (BadAt m) p q = absurd (bad_or_long room text q.1 p.past p.can)
one_ending line room text TooLong TooLong p q = refl

-- a text has one reading
pub one_reading : (line room : ℕ) (text : List ℕ) (cs ds : List Command) (e f : Ending)
    → Reads line room text cs e → Reads line room text ds f → (cs ≡ ds) × (e ≡ f)
one_reading line room text [] [] e f p q = (refl, one_ending line room text e f p q)
one_reading line room text [] (d ∷ ds) e f p q = absurd (goes_on line room text q.0 q.1 d e q.2 q.3 q.4 p)
one_reading line room text (c ∷ cs) [] e f p q = absurd (goes_on line room text p.0 p.1 c f p.2 p.3 p.4 q)
one_reading line room text (c ∷ cs) (d ∷ ds) e f p q =
    let same = item_once p.0 q.0 p.1 q.1 c d (sym p.2 ∙ q.2) p.4 q.4 in
    let P : List ℕ → List ℕ → Type 0 = λ i t. Reads (line + lf_count i) (room - length i) t cs e in
    let moved : Reads (line + lf_count q.0) (room - length q.0) q.1 cs e = subst (λ i. P i q.1) same.0 (subst (P p.0) same.1 p.5) in
    let tails = one_reading (line + lf_count q.0) (room - length q.0) q.1 cs ds e f moved q.5 in
    let head : c ≡ d = same.2 in
    let tail : cs ≡ ds = tails.0 in
    (cc, tails.1)

-- what was read before the end
pub Reads-begins : (line room : ℕ) (text : List ℕ) (commands : List Command) (ending : Ending) → Reads line room text commands ending
    → (line' room' : ℕ) × (rest : List ℕ) × BeginsWith line room text commands line' room' rest
Reads-begins line room text [] ending r = (line, room, text, (refl, refl, refl))
Reads-begins line room text (command ∷ commands) ending r =
    let more = Reads-begins (line + lf_count r.0) (room - length r.0) r.1 commands ending r.5 in
    (more.0, more.1, more.2, (r.0, r.1, r.2, r.3, r.4, more.3))
