-- Answers by the names of a table of aliases.
-- answer_is      the spans of a set that was made are the answer
-- answer_stops   a fault of the tree is the fault of the answer
use Rattle.std.proofs.Common.{◌≡◌, ℕ, Bool, List, Ok, sym, ap, ◌∙◌, subst}
use Rattle.property_aliases.specs.Found.{AreAliasesOf}
use Rattle.property_aliases.specs.Sources.{Sources}
use Rattle.property_aliases.specs.declared.aliases.Aliases.{Aliases}
use Rattle.property_aliases.specs.declared.property.Test.{Test}
use Rattle.ucd_points.specs.Bounds.{Bounds}
use Rattle.unicodeset_eval.specs.Answers.{Stops, names_in, names_are}
use Rattle.unicodeset_eval.specs.Edges.{Edges, has}
use Rattle.unicodeset_eval.specs.Members.{member_spans}
use Rattle.unicodeset_eval.specs.Questions.{Members, answer, members, names_of, spans_of}
use Rattle.unicodeset_eval.specs.declared.stop.EvalStop.{EvalStop}
use Rattle.unicodeset_eval.specs.declared.stop.EvalStop.TheVariants.{Fault, Memory}
use Rattle.unicodeset_parser.specs.Trees.{Tree}

same_members : (a : Aliases) (s : Sources) (tests : Test → ℕ → Bool) (t : Tree) → AreAliasesOf a s → members (names_in a) tests t ≡ members (names_of s) tests t
same_members a s tests t are = ap (λ names. members names tests t) (names_are a s are)

pub answer_is : (n : ℕ) (a : Aliases) (s : Sources) (tests : Test → ℕ → Bool) (t : Tree) (set : Edges) (spans : List Bounds) → AreAliasesOf a s →
    members (names_in a) tests t ≡ Ok (has set) → spans ≡ member_spans n (has set) → answer s tests n t ≡ Ok spans
answer_is n a s tests t set spans are made is = ap (spans_of n) (sym (same_members a s tests t are) ∙ made) ∙ ap Ok (sym is)

stops_too : (n : ℕ) (stop : EvalStop) (m : Members) → Stops stop m → Stops stop (spans_of n m)
stops_too n (Fault rule at) m is = ap (spans_of n) is
stops_too n Memory m is = tt

pub answer_stops : (n : ℕ) (a : Aliases) (s : Sources) (tests : Test → ℕ → Bool) (t : Tree) (stop : EvalStop) → AreAliasesOf a s →
    Stops stop (members (names_in a) tests t) → Stops stop (answer s tests n t)
answer_stops n a s tests t stop are is = stops_too n stop (members (names_of s) tests t) (subst (Stops stop) (same_members a s tests t are) is)

pub answer_by : (n : ℕ) (s : Sources) (tests told : Test → ℕ → Bool) (t : Tree) → ((test : Test) (c : ℕ) → tests test c ≡ told test c) → answer s tests n t ≡ answer s told n t
answer_by n s tests told t same = ap (λ (f : Test → ℕ → Bool). answer s f n t) (λ i test c. same test c i)
