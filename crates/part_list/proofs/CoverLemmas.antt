-- The code points of which entries of a list may speak.
use Rattle.std.proofs.Common.{◌≡◌, ℕ, ◌≤◌, Bool, true, false, List, length, max, not, Option, Some, None, is_some, inl, inr, refl, subst, sym, ◌∙◌, arith, box_value}
use Rattle.std.specs.Global.{Box}
use Rattle.std.specs.List.{position_or_len}
use Rattle.std.proofs.lemmas.List.Sums.{fails_before_first}
use Rattle.part_list.specs.declared.cover.Cover.{Cover}
use Rattle.part_list.specs.declared.cover.Known.{Known}
use Rattle.part_list.specs.declared.entry.Entry.{Entry}
use Rattle.part_list.specs.Covers.{AllMeet, IsCovered, IsHeld, NoneSet}
use Rattle.part_list.specs.Finds.{FirstIn}

-- an entry that is held does not pass if no code point is in and no wide entry passes
pub none_held : {A : Type 0} (p : Entry A → Bool) (known : Known A) (first last : ℕ) → AllMeet p first last → first ≤ last → NoneSet known.points first last → position_or_len p known.wide.items ≡ length known.wide.items → (entry : Entry A) → IsHeld known entry → p entry ≡ false
none_held {A = A} p known first last meet up none wide entry held = by (p entry) refl
  where
    by : (b : Bool) → p entry ≡ b → p entry ≡ false
    by false e = e
    by true e = elim held [
      | inl set ↦
          let m = meet entry e in
          let code = m.code in
          let end = m.end in
          let at = max first entry.code in
          let clash : true ≡ false = sym (set at (omega arith) (omega arith)) ∙ none at (omega arith) (omega arith) in
          absurd cc
      | inr one ↦
          let k = one.0 in
          let lt = one.1 in
          sym (subst (λ (x : Entry A). p x ≡ p entry) (sym one.2) refl) ∙ fails_before_first p known.wide.items k entry (omega (arith, lt, wide))
    ]

-- no entry passes if the first one is not found
pub none_found : {A : Type 0} (found : Option ℕ) (p : A → Bool) (xs : List A) (none : Bool) → is_some found ≡ not none → none ≡ true → FirstIn found p xs → position_or_len p xs ≡ length xs
none_found None p xs none is told h = h
none_found (Some at) p xs true is told h = absurd cc
none_found (Some at) p xs false is told h = absurd cc

-- what is covered is held, if something is known
pub held_in : {A : Type 0} (cover : Cover A) (known : Box (Known A)) → cover.known ≡ Some known → (entry : Entry A) → IsCovered cover entry → IsHeld (box_value known) entry
held_in cover known is entry h = (rw is at h)
