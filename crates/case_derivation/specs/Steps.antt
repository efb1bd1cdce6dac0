-- Mappings of lists, one member after the other. The Unicode Standard, section 3.13, toUppercase to toCasefold.
-- image_of casing F      the image of a point with the facts F by a mapping that each point takes by itself
-- mapped_by F casing s   the points of the images of the members, joined in order
-- title_image begun F    the image in a title of a point with the facts F; the title has begun where a Cased point stands
--                        before it
-- titled F begun s       the title of what is left, where the title has begun or not
use Rattle.std.specs.Prelude.{ℕ, Bool, true, false, List, if◌then◌else◌, flat_map}
use Rattle.ucd_model.specs.Casing.{lower, title}
use Rattle.ucd_facts.specs.Facts.{Facts, image_points}
use Rattle.ucd_facts.specs.declared.image.Image.{Image}
use Rattle.ucd_facts.specs.declared.image.Image.TheVariants.{Same}
use Rattle.ucd_facts.specs.Predicates.{cased}
use Rattle.case_derivation.specs.declared.mapping.Casing.{Casing}
use Rattle.case_derivation.specs.declared.mapping.Casing.TheVariants.{Lower, Upper, Fold}

abbrev pub image_of : Casing → Facts → Image
image_of Lower F = F.lower
image_of Upper F = F.upper
image_of Fold F = F.fold

abbrev pub mapped_by : (ℕ → Facts) → Casing → List ℕ → List ℕ
mapped_by F casing s = flat_map (λ c. image_points c (image_of casing (F c))) s

abbrev pub title_image : Bool → Facts → Image
title_image begun F = if begun then F.lower else (if cased F then F.title else Same)

abbrev pub titled : (ℕ → Facts) → Bool → List ℕ → List ℕ
titled F true s = lower F s
titled F false s = title F s
