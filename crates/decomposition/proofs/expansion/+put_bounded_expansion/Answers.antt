use Rattle.std.proofs.Common.{◌≡◌, ℕ, ◌-◌, List, length, Option, None, ◌∙◌, arith}
use Rattle.std.proofs.lemmas.Result.{err_from_is_err_and}
use Rattle.ucd_facts.specs.Expansion.{expand}
use Rattle.decomposition.proofs.WalkLemmas.{Behind_full, Behind_alone, Behind_nothing, Behind_room, has_members, no_members, expand_alone, expand_joined, walk_more, walk_none, walk_end, Puts_err}
use Rattle.decomposition.proofs.expansion.+put_bounded_expansion.Goals as goal

pub returns-then-len-gt-MOST : goal.returns-then-len-gt-MOST
returns-then-len-gt-MOST g t c = Behind_full c.args.points.now (expand (g.W.FactView.facts_of c.args.view.now) c.args.compat c.args.levels c.args.c) (omega (arith, c.len.ensures)) c.requires

pub returns-then-is_empty : goal.returns-then-is_empty
returns-then-is_empty g t c =
    let mapping : List ℕ = c.mapping_if_counted-mapping.result.now in
    let alone = expand_alone (g.W.FactView.facts_of c.args.view.now) c.args.compat c.args.levels c.args.c mapping (omega arith) c.mapping_if_counted-mapping.ensures (no_members _ (length mapping) c.is_empty.ensures c.if-is_empty.true) in
    rw (alone, c.in_ok-push.ensures.ok) (Behind_alone c.args.points.now c.args.c (omega (arith, c.len.ensures)))

pub members-init : goal.members-init
members-init g t c = record { room = c.requires; above = Behind_nothing c.args.points.now c.requires }

pub returns-in_err-put_bounded_expansion : goal.returns-in_err-put_bounded_expansion
returns-in_err-put_bounded_expansion g t c =
    let f : ℕ → Option (List ℕ) = expand (g.W.FactView.facts_of c.args.view.now) c.args.compat (c.args.levels - 1) in
    let mapping : List ℕ = c.mapping_if_counted-mapping.result.now in
    let members = expand_joined (g.W.FactView.facts_of c.args.view.now) c.args.compat c.args.levels c.args.c mapping (omega arith) c.mapping_if_counted-mapping.ensures (has_members _ (length mapping) c.is_empty.ensures c.if-is_empty.false) in
    let value : Option (List ℕ) = f c.member-item.result in
    let none = λ (e : value ≡ None). members ∙ walk_none f mapping c.members.member-index c.member-item.result (omega arith) c.member-item.is e in
    let p = err_from_is_err_and c.from_residual-in_err-put_bounded_expansion.result c.from_residual-in_err-put_bounded_expansion.ensures.1 in
    rw (p.1, p.2) (Puts_err c.args.points.now c.members.points c.put_bounded_expansion.new.points c.put_bounded_expansion.new.points _ value _ c.in_err-put_bounded_expansion.ensures none)

pub members-preserved : goal.members-preserved
members-preserved g t c =
    let f : ℕ → Option (List ℕ) = expand (g.W.FactView.facts_of c.args.view.now) c.args.compat (c.args.levels - 1) in
    let mapping : List ℕ = c.mapping_if_counted-mapping.result.now in
    record {
      room = Behind_room c.members.points c.put_bounded_expansion.new.points (f c.member-item.result) c.in_ok-put_bounded_expansion.ensures;
      above = walk_more f mapping c.members.member-index c.member-item.result (omega arith) c.member-item.is c.args.points.now c.members.points c.put_bounded_expansion.new.points c.members.invariant.above c.in_ok-put_bounded_expansion.ensures;
    }

pub returns : goal.returns
returns g t c =
    let f : ℕ → Option (List ℕ) = expand (g.W.FactView.facts_of c.args.view.now) c.args.compat (c.args.levels - 1) in
    let mapping : List ℕ = c.mapping_if_counted-mapping.result.now in
    let members = expand_joined (g.W.FactView.facts_of c.args.view.now) c.args.compat c.args.levels c.args.c mapping (omega arith) c.mapping_if_counted-mapping.ensures (has_members _ (length mapping) c.is_empty.ensures c.if-is_empty.false) in
    rw members (walk_end f mapping c.args.points.now c.members.points c.members.member-index c.members.invariant.above (omega arith))
