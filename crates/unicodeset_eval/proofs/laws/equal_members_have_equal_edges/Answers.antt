use Rattle.std.proofs.Common.{◌≡◌, ℕ, sym, ap, ◌∙◌, arith}
use Rattle.unicodeset_eval.specs.Edges.{Edges, Rises, has, inside}
use Rattle.unicodeset_eval.specs.EdgeLaws.{inside_early, equal_edges}
use Rattle.unicodeset_eval.proofs.laws.equal_members_have_equal_edges.Goals as goal

same : (s t : Edges) → Rises 1 s.edges → Rises 1 t.edges → ((c : ℕ) → has s c ≡ has t c) → s ≡ t
same s t first second h =
    let has_zero : s.has_zero ≡ t.has_zero = sym (inside_early s.has_zero s.edges 1 0 first (omega arith)) ∙ h 0 ∙ inside_early t.has_zero t.edges 1 0 second (omega arith) in
    let members : (c : ℕ) → inside s.has_zero s.edges c ≡ inside s.has_zero t.edges c = λ c. h c ∙ ap (λ b. inside b t.edges c) (sym has_zero) in
    let edges : s.edges ≡ t.edges = equal_edges s.has_zero s.edges t.edges 1 first second members in
    ap (λ b. let r : Edges = record { has_zero = b; edges = s.edges } in r) has_zero ∙ ap (λ xs. let r : Edges = record { has_zero = t.has_zero; edges = xs } in r) edges

pub returns : goal.returns
returns c = same
