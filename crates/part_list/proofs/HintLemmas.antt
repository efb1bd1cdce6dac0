-- What is told of all entries of a list.
use Rattle.std.proofs.Common.{◌≡◌, ℕ, Bool, false, List, All}
use Rattle.std.proofs.lemmas.List.Elements.{All-weaker, All-append, All-take, All-drop}
use Rattle.part_list.specs.Hints.{IsHinted}
use Rattle.part_list.specs.Parts.{spliced}
use Rattle.part_list.specs.declared.hints.Hints.{Hints}
use Rattle.part_list.specs.declared.entry.Entry.{Entry}

-- entries that are put in the place of others
pub hinted_spliced : {A : Type 0} (hints : Hints A) (xs : List (Entry A)) (at n : ℕ) (ys : List (Entry A)) → All (IsHinted hints) xs → All (IsHinted hints) ys → All (IsHinted hints) (spliced xs at n ys)
hinted_spliced hints xs at n ys old put =
    All-append (IsHinted hints) _ _ (All-append (IsHinted hints) _ _ (All-take (IsHinted hints) at xs old) put) (All-drop (IsHinted hints) _ xs old)

-- entries of which none passes of which this is told
pub none_hinted : {A : Type 0} (p : Entry A → Bool) (hints : Hints A) (xs : List (Entry A)) → ((entry : Entry A) → IsHinted hints entry → p entry ≡ false) → All (IsHinted hints) xs → All (λ x. p x ≡ false) xs
none_hinted p hints xs lacks hinted = All-weaker (IsHinted hints) (λ x. p x ≡ false) lacks xs hinted
