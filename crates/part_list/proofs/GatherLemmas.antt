-- What is told of the entries of parts, now and next, by something that is told of more and more.
-- AllShown P ps k   P holds of the entries of the parts up to part k
use Rattle.std.proofs.Common.{◌≡◌, ℕ, ◌+◌, ◌<◌, ◌≤◌, List, length, take, map, get_or, arith, All}
use Rattle.std.proofs.lemmas.List.{length-map, take_all}
use Rattle.std.proofs.lemmas.List.Elements.{All-append, All-weaker}
use Rattle.part_list.specs.Parts.{flat}
use Rattle.part_list.specs.PartValues.{PartValue, parts_next, parts_now}
use Rattle.part_list.proofs.FlatLemmas.{flat-take_more, part_by}

pub record AllShown {A : Type 0} (P : A → Type 0) (ps : List (PartValue A)) (k : ℕ) : Type 0 where
  pub now : All P (flat (take k (parts_now ps)))
  pub next : All P (flat (take k (parts_next ps)))

one_more : {A B : Type 0} (P Q : A → Type 0) (f : B → List A) (ps : List B) (k : ℕ) (part : B) → ((x : A) → P x → Q x) → k < length ps → part ≡ get_or ps k part → All P (flat (take k (map f ps))) → All Q (f part) → All Q (flat (take (k + 1) (map f ps)))
one_more P Q f ps k part grows lt is before here =
    let long = length-map ps f in
    rw (flat-take_more (map f ps) k (omega arith), part_by f ps k part lt is)
    (All-append Q _ _ (All-weaker P Q grows _ before) here)

-- one more part
pub shown_more : {A : Type 0} (P Q : A → Type 0) (ps : List (PartValue A)) (k : ℕ) (part : PartValue A) → ((x : A) → P x → Q x) → k < length ps → part ≡ get_or ps k part → AllShown P ps k → All Q part.now → All Q part.next → AllShown Q ps (k + 1)
shown_more P Q ps k part grows lt is before now next = record {
  now = one_more P Q (λ p. p.now) ps k part grows lt is before.now now;
  next = one_more P Q (λ p. p.next) ps k part grows lt is before.next next;
}

-- all parts
pub shown_now : {A : Type 0} (P : A → Type 0) (ps : List (PartValue A)) (k : ℕ) → length ps ≤ k → AllShown P ps k → All P (flat (parts_now ps))
shown_now P ps k past shown = let long = length-map ps (λ p. p.now) in rw (← take_all k (parts_now ps) (omega arith)) shown.now

pub shown_next : {A : Type 0} (P : A → Type 0) (ps : List (PartValue A)) (k : ℕ) → length ps ≤ k → AllShown P ps k → All P (flat (parts_next ps))
shown_next P ps k past shown = let long = length-map ps (λ p. p.next) in rw (← take_all k (parts_next ps) (omega arith)) shown.next
