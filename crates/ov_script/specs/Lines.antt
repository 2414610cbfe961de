-- The reply lines.
use Rattle.std.specs.Prelude.{ℕ, List, [], ◌∷◌, ◌++◌, length, codes}
use Rattle.std.specs.Fmt.{decimal}
use Rattle.ov_base.specs.Refusals.{refusal_number, refusal_word}
use Rattle.ov_script.specs.WrittenLists.{list_text}
use Rattle.ov_script.specs.declared.reply.Reply.{Reply}
use Rattle.ov_script.specs.declared.reply.Reply.TheVariants.{Accepted, Bytes, List as Reply-List, Epoch, Refused, End}

-- The line of a reply, with its LF.
abbrev pub reply_line : Reply → List ℕ
reply_line (Accepted epoch) = codes "ok " ++ decimal epoch ++ 10 ∷ []
reply_line (Bytes user file bytes) =
    codes "data " ++ user ++ 32 ∷ file ++ 32 ∷ decimal (length bytes) ++ 10 ∷ bytes ++ 10 ∷ []
reply_line (Reply-List file names) = codes "list " ++ file ++ 32 ∷ list_text names ++ 10 ∷ []
reply_line (Epoch epoch) = codes "epoch " ++ decimal epoch ++ 10 ∷ []
reply_line (Refused why) =
    codes "refused " ++ decimal (refusal_number why) ++ 32 ∷ [] ++ refusal_word why ++ 10 ∷ []
reply_line (End epoch) = codes "end epoch " ++ decimal epoch ++ 10 ∷ []
