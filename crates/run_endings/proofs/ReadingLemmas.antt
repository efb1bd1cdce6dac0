-- What was read is what was seen, of which no more was read than decides it.
use Rattle.std.proofs.Common.{◌≡◌, ◌≤◌, ℕ, ◌+◌, Bool, true, false, IsTrue, List, [], ◌∷◌, length, map, refl, ap, ◌∙◌}
use Rattle.std.proofs.lemmas.List.{length-map}
use Rattle.run_endings.specs.Endings.{Contents, Seen}
use Rattle.run_endings.specs.Reading.{IsRead, cut}

cut_held : (holds : Contents) (paths : List (List ℕ)) → map (λ path. cut (holds path)) paths ≡ map cut (map holds paths)
cut_held holds [] = refl
cut_held holds (path ∷ paths) = ap (λ (rest : Seen). cut (holds path) ∷ rest) (cut_held holds paths)

-- what was seen is what is held, or what was read
pub reads_all : (tells : Bool) (holds : Contents) (paths : List (List ℕ)) (read : Seen) → (IsTrue tells → read ≡ map (λ path. cut (holds path)) paths)
    → length read ≡ length paths → read ≡ map cut read → IsRead tells holds paths read
reads_all true holds paths read same each cuts = (map holds paths, record { each = length-map paths holds; held = λ _. refl }, same refl ∙ cut_held holds paths)
reads_all false holds paths read same each cuts = (read, record { each = each; held = λ none. absurd cc }, cuts)
