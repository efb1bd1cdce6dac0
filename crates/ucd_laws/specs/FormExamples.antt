-- What canonical order and composition give at small examples, after UAX #15 and the normalisation test of the database.
-- class    the classes of 0307 and 0301, above (230), of 0323, below (220), of 0327, attached below (202), of 0345 (240);
--          every other point has class 0
-- pair     00E7 is 0063 0327, 1E09 is 00E7 0301, 1E0A is 0044 0307, 1E0C is 0044 0323, AC00 is 1100 1161, AC01 is AC00 11A8
use Rattle.std.proofs.Common.{◌≡◌, ℕ, [], ◌∷◌, Option, Some, None, Ok, Err, ◌==◌, if◌then◌else◌, ◌&&◌, refl}
use Rattle.ucd_model.specs.CanonicalOrder.{placed, order}
use Rattle.ucd_model.specs.Composition.{last_starter, compose}
use Rattle.ucd_model.specs.Forms.{appended}
use Rattle.ucd_facts.specs.declared.form.Bad.TheVariants.{V2, V3}

abbrev class : ℕ → ℕ
class c = if c == 0x301 then 230 else if c == 0x307 then 230 else if c == 0x323 then 220 else if c == 0x327 then 202 else if c == 0x345 then 240 else 0

abbrev joins : ℕ → ℕ → ℕ → ℕ → ℕ → Option ℕ → Option ℕ
joins a b q s y other = if (a == s) && (b == y) then Some q else other

abbrev pair : ℕ → ℕ → Option ℕ
pair s y = joins 0x63 0x327 0xE7 s y (joins 0xE7 0x301 0x1E09 s y (joins 0x44 0x307 0x1E0A s y (joins 0x44 0x323 0x1E0C s y (joins 0x1100 0x1161 0xAC00 s y (joins 0xAC00 0x11A8 0xAC01 s y None)))))

-- a mark passes those of a greater class, and stays behind those of its own
placed_examples : (placed class 0x327 (0x63 ∷ 0x301 ∷ []) ≡ 0x63 ∷ 0x327 ∷ 0x301 ∷ [])
    × (placed class 0x307 (0x63 ∷ 0x301 ∷ []) ≡ 0x63 ∷ 0x301 ∷ 0x307 ∷ [])
    × (placed class 0x323 (0x327 ∷ 0x301 ∷ 0x345 ∷ []) ≡ 0x327 ∷ 0x323 ∷ 0x301 ∷ 0x345 ∷ [])
    × (placed class 0x327 [] ≡ 0x327 ∷ [])
placed_examples = (refl, refl, refl, refl)

-- no mark passes a starter
order_examples : (order class (0x63 ∷ 0x301 ∷ 0x327 ∷ []) ≡ 0x63 ∷ 0x327 ∷ 0x301 ∷ [])
    × (order class (0x44 ∷ 0x307 ∷ 0x323 ∷ []) ≡ 0x44 ∷ 0x323 ∷ 0x307 ∷ [])
    × (order class (0x301 ∷ 0x61 ∷ 0x327 ∷ []) ≡ 0x301 ∷ 0x61 ∷ 0x327 ∷ [])
    × (order class (0x301 ∷ 0x307 ∷ 0x301 ∷ 0x323 ∷ []) ≡ 0x323 ∷ 0x301 ∷ 0x307 ∷ 0x301 ∷ [])
    × (order class [] ≡ [])
order_examples = (refl, refl, refl, refl, refl)

starter_examples : (last_starter class (0x61 ∷ 0x301 ∷ 0x62 ∷ 0x327 ∷ 0x301 ∷ []) ≡ Some (record { before = 0x61 ∷ 0x301 ∷ []; starter = 0x62; after = 0x327 ∷ 0x301 ∷ [] }))
    × (last_starter class (0x301 ∷ []) ≡ None)
starter_examples = (refl, refl)

-- joined twice; past a mark of less class; blocked by a mark of equal class; blocked by a starter; no starter at all;
-- starters that stand beside one another are joined, and where a mark stands between they are not
compose_examples : (compose class pair (0x63 ∷ 0x327 ∷ 0x301 ∷ []) ≡ 0x1E09 ∷ [])
    × (compose class pair (0xE7 ∷ 0x327 ∷ 0x301 ∷ []) ≡ 0x1E09 ∷ 0x327 ∷ [])
    × (compose class pair (0xE7 ∷ 0x307 ∷ 0x301 ∷ []) ≡ 0xE7 ∷ 0x307 ∷ 0x301 ∷ [])
    × (compose class pair (0x44 ∷ 0x323 ∷ 0x307 ∷ []) ≡ 0x1E0C ∷ 0x307 ∷ [])
    × (compose class pair (0x63 ∷ 0x61 ∷ 0x327 ∷ []) ≡ 0x63 ∷ 0x61 ∷ 0x327 ∷ [])
    × (compose class pair (0x327 ∷ 0x301 ∷ []) ≡ 0x327 ∷ 0x301 ∷ [])
    × (compose class pair (0x1100 ∷ 0x1161 ∷ 0x11A8 ∷ []) ≡ 0xAC01 ∷ [])
    × (compose class pair (0x1100 ∷ 0x327 ∷ 0x1161 ∷ []) ≡ 0x1100 ∷ 0x327 ∷ 0x1161 ∷ [])
    × (compose class pair (0x1100 ∷ 0x1161 ∷ 0x1100 ∷ 0x1161 ∷ 0x11A8 ∷ []) ≡ 0xAC00 ∷ 0xAC01 ∷ [])
compose_examples = (refl, refl, refl, refl, refl, refl, refl, refl, refl)

-- the first rule is named
appended_examples : (appended (Err V3) (Err V2) ≡ Err V3)
    × (appended (Ok (0x61 ∷ [])) (Err V2) ≡ Err V2)
    × (appended (Ok (0x61 ∷ [])) (Ok (0x62 ∷ [])) ≡ Ok (0x61 ∷ 0x62 ∷ []))
appended_examples = (refl, refl, refl)
