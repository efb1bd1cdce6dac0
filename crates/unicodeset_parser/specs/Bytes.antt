-- Bytes at the front of a text, and words in it.
-- begins_with b bs      the first byte is b; false for no bytes
-- begins word bs        the bytes begin with the word
-- found_at word bs      the first place where the word stands, which is not empty; None where it stands nowhere
use Rattle.std.specs.Prelude.{ℕ, suc, Bool, true, false, ◌==◌, ◌&&◌, List, [], ◌∷◌, Option, Some, None, if◌then◌else◌}

abbrev pub begins_with : ℕ → List ℕ → Bool
begins_with b [] = false
begins_with b (x ∷ xs) = x == b

abbrev pub begins : List ℕ → List ℕ → Bool
begins [] bs = true
begins (w ∷ word) [] = false
begins (w ∷ word) (b ∷ bs) = (b == w) && begins word bs

abbrev pub one_more : Option ℕ → Option ℕ
one_more (Some k) = Some (suc k)
one_more None = None

abbrev pub found_at : List ℕ → List ℕ → Option ℕ
found_at word [] = None
found_at word (b ∷ bs) = if begins word (b ∷ bs) then Some 0 else one_more (found_at word bs)
