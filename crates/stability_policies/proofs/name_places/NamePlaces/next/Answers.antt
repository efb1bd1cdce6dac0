use Rattle.std.proofs.Common.{◌≡◌, ℕ, true, false, List, Some, None, sym, subst, ◌∙◌, bytes_eq}
use Rattle.stability_policies.specs.NamePlaces.{IsNext, has_name}
use Rattle.stability_policies.proofs.PlaceLemmas.{Entry, Searched, searched, next_same, next_other, next_past}
use Rattle.stability_policies.proofs.name_places.NamePlaces.next.Goals as goal

pub returns-in-Some : goal.returns-in-Some
returns-in-Some c =
    let rows = c.self.inside.rows.now in
    let entries = c.self.inside.entries.items in
    let x : Entry = (c.args.name, c.args.start) in
    let a : Entry = c.in-Some.field-0.now in
    let look = rw c.deref-2.ensures.value at c.in-Some.ensures.lookup in
    let bound = rw c.deref.ensures.value at c.binary_search.ensures.bound in
    let position = rw c.deref.ensures.value at c.binary_search.ensures.position in
    let there = subst (Searched rows entries c.self.invariant x) (sym c.place_of-at.ensures) (searched rows entries c.self.invariant x c.binary_search.result bound position) in
    let same : bytes_eq a.0.now x.0.now ≡ true = sym c.eq.ensures ∙ c.if-eq.true in
    subst (λ (rs : List (List (List ℕ))). IsNext (has_name rs c.args.name.now) c.args.start (Some a.1)) c.self.view_is
    (next_same rows entries c.self.invariant x c.place_of-at.result a look.3.0 (sym look.1) there same)

pub returns-in_default : goal.returns-in_default
returns-in_default c =
    let rows = c.self.inside.rows.now in
    let entries = c.self.inside.entries.items in
    let x : Entry = (c.args.name, c.args.start) in
    let a : Entry = c.in-Some.field-0.now in
    let look = rw c.deref-2.ensures.value at c.in-Some.ensures.lookup in
    let bound = rw c.deref.ensures.value at c.binary_search.ensures.bound in
    let position = rw c.deref.ensures.value at c.binary_search.ensures.position in
    let there = subst (Searched rows entries c.self.invariant x) (sym c.place_of-at.ensures) (searched rows entries c.self.invariant x c.binary_search.result bound position) in
    let other : bytes_eq a.0.now x.0.now ≡ false = sym c.eq.ensures ∙ c.if-eq.false in
    subst (λ (rs : List (List (List ℕ))). IsNext (has_name rs c.args.name.now) c.args.start None) c.self.view_is
    (next_other rows entries c.self.invariant x c.place_of-at.result a look.3.0 (sym look.1) there other)

pub returns-in_default-2 : goal.returns-in_default-2
returns-in_default-2 c =
    let rows = c.self.inside.rows.now in
    let entries = c.self.inside.entries.items in
    let x : Entry = (c.args.name, c.args.start) in
    let look = rw (c.deref-2.ensures.value, c.in_default.is) at c.get.ensures.lookup in
    let bound = rw c.deref.ensures.value at c.binary_search.ensures.bound in
    let position = rw c.deref.ensures.value at c.binary_search.ensures.position in
    let there = subst (Searched rows entries c.self.invariant x) (sym c.place_of-at.ensures) (searched rows entries c.self.invariant x c.binary_search.result bound position) in
    subst (λ (rs : List (List (List ℕ))). IsNext (has_name rs c.args.name.now) c.args.start None) c.self.view_is
    (next_past rows entries c.self.invariant x c.place_of-at.result there look.3)
