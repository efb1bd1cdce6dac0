-- Identifiers that are closed under NFKC. UAX #31, section 5.1.
--
-- F is the facts of each code point.
-- continues F s       each member of s has ID_Continue
-- starts F s          s is not empty, its first member has ID_Start, and each later one ID_Continue
-- xid_start F c       c has ID_Start, and NFKC of c starts an identifier
-- xid_continue F c    c has ID_Continue, and NFKC of c continues one
use Rattle.std.specs.Prelude.{ℕ, Bool, false, ◌&&◌, List, [], ◌∷◌}
use Rattle.std.specs.List.{list_all}
use Rattle.ucd_model.specs.Casing.{where_form}
use Rattle.ucd_facts.specs.Facts.{Facts}
use Rattle.ucd_model.specs.Forms.{nfkc}
use Rattle.ucd_facts.specs.Predicates.{id_start, id_continue}

abbrev pub continues : (ℕ → Facts) → List ℕ → Bool
continues F s = list_all (λ x. id_continue (F x)) s

abbrev pub starts : (ℕ → Facts) → List ℕ → Bool
starts F [] = false
starts F (x ∷ s) = id_start (F x) && continues F s

abbrev pub xid_start : (ℕ → Facts) → ℕ → Bool
xid_start F c = id_start (F c) && where_form (starts F) (nfkc F (c ∷ []))

abbrev pub xid_continue : (ℕ → Facts) → ℕ → Bool
xid_continue F c = id_continue (F c) && where_form (continues F) (nfkc F (c ∷ []))
