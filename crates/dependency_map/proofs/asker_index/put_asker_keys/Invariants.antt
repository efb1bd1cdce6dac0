use Rattle.std.proofs.Common.{◌≡◌, ℕ, true, take}
use Rattle.number_sets.specs.Keys.{has}
use Rattle.ucd_facts.specs.Answers.{is_asked}
use Rattle.ucd_facts.specs.declared.query.Query.{Query as Question}
use Rattle.dependency_map.specs.Index.{may_ask}
use Rattle.dependency_map.proofs.asker_index.put_asker_keys.Given as goal

-- nothing is lost, and the code point is listed under the questions that were passed and are not its own ones
abbrev pub invariant-queries : goal.invariant-queries
invariant-queries l = record {
  grows : (q : Question) (k : ℕ) → may_ask (has l.initial.keys) q k ≡ true → may_ask (has l.keys) q k ≡ true;
  listed : (q : Question) → is_asked (take l.query-index l.query-items) q ≡ true → may_ask (has l.keys) q l.c ≡ true;
}
