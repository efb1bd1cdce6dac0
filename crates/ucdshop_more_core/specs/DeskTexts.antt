-- The log of a desk, and what its summary counts.
-- reply_text reply        what the log says of a reply: `opened R`, `accepted R N` with the number of code points whose records
--                         differ, `left`, `present`, `absent`, `ahead R`, `stale R operation I`, or why the group is refused
-- reply_line line reply   the line of the log that says it: the number of the mark's line, and what is said
-- desk_log lines replies  the line of each reply, whose marks have these lines
-- is_accepted reply       a group was carried out
-- is_turned_away reply    no editor came or left, and no group was carried out
use Rattle.std.specs.Prelude.{ℕ, Bool, true, false, List, [], ◌∷◌, ◌++◌, length, codes, decimal}
use Rattle.bench_editors.specs.declared.reply.Reply.{Reply}
use Rattle.bench_editors.specs.declared.reply.Reply.TheVariants.{Entered, Accepted, Left, Present, Absent, Ahead, Stale, Refused}
use Rattle.run_inputs.specs.GroupLines.{log_line, refusal_text}

abbrev pub reply_text : Reply → List ℕ
reply_text (Entered revision) = codes "opened " ++ decimal revision
reply_text (Accepted revision points) = codes "accepted " ++ decimal revision ++ codes " " ++ decimal (length points)
reply_text Left = codes "left"
reply_text Present = codes "present"
reply_text Absent = codes "absent"
reply_text (Ahead revision) = codes "ahead " ++ decimal revision
reply_text (Stale revision op) = codes "stale " ++ decimal revision ++ codes " operation " ++ decimal op
reply_text (Refused why) = refusal_text why

abbrev pub reply_line : ℕ → Reply → List ℕ
reply_line line reply = log_line line (reply_text reply)

abbrev pub desk_log : List ℕ → List Reply → List ℕ
desk_log (line ∷ lines) (reply ∷ replies) = reply_line line reply ++ desk_log lines replies
desk_log _ _ = []

abbrev pub is_accepted : Reply → Bool
is_accepted (Accepted revision points) = true
is_accepted (Entered revision) = false
is_accepted Left = false
is_accepted Present = false
is_accepted Absent = false
is_accepted (Ahead revision) = false
is_accepted (Stale revision op) = false
is_accepted (Refused why) = false

abbrev pub is_turned_away : Reply → Bool
is_turned_away (Entered revision) = false
is_turned_away (Accepted revision points) = false
is_turned_away Left = false
is_turned_away Present = true
is_turned_away Absent = true
is_turned_away (Ahead revision) = true
is_turned_away (Stale revision op) = true
is_turned_away (Refused why) = true
