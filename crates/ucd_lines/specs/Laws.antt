-- Laws of lines and code points.
-- HasItem bytes front item rest   the text has this line, behind the lines of front and before those of rest
-- ItemsJoin                       contents and endings put together give the text, for every text
-- EmptyTextHasNoLine              the empty text has no line
-- NoLineFeedInside                no content holds a LF
-- OnlyTheLastIsUnended            a line that another one follows has an ending; a content without an ending is not empty
-- EndingsAreToldApart             a content that LF alone ends does not end in CR
-- IsLine item rest                the line keeps the three laws above, with the lines behind it
-- AreLines items                  each of the lines does; no lines do
-- lines_behind                    the lines behind the first ones of a text are lines, if the three laws hold
-- LinesAreUnique                  lines that keep these laws are the lines of what they give put together, so that a text has no
--                                 others
-- ContentsAreThoseOfItems                the contents of the lines are `contents`
-- HexReadsPutHex                  what a code point is written in spells that code point
use Rattle.std.proofs.Common.{◌≡◌, ◌≢◌, ℕ, ◌<◌, false, List, [], ◌∷◌, ◌++◌, map, Some, sym, ◌∙◌, append_assoc}
use Rattle.std.specs.List.{list_any}
use Rattle.ucd_points.specs.Lines.{LineItem, unended, lf, is_lf, ends_in_return, contents, items_of, joined}
use Rattle.ucd_points.specs.Fields.{point_of}
use Rattle.ucd_points.specs.HexText.{hex_text}

abbrev pub HasItem : List ℕ → List LineItem → LineItem → List LineItem → Type 0
HasItem bytes front item rest = items_of bytes ≡ front ++ item ∷ rest

abbrev pub ItemsJoin : Type 0
ItemsJoin = (bytes : List ℕ) → joined (items_of bytes) ≡ bytes

abbrev pub EmptyTextHasNoLine : Type 0
EmptyTextHasNoLine = items_of [] ≡ []

abbrev pub NoLineFeedInside : Type 0
NoLineFeedInside = (bytes : List ℕ) (front : List LineItem) (item : LineItem) (rest : List LineItem) → HasItem bytes front item rest → list_any is_lf item.content ≡ false

abbrev pub OnlyTheLastIsUnended : Type 0
OnlyTheLastIsUnended = (bytes : List ℕ) (front : List LineItem) (item : LineItem) (rest : List LineItem) → HasItem bytes front item rest → item.ending ≡ unended → (rest ≡ []) × (item.content ≢ [])

abbrev pub EndingsAreToldApart : Type 0
EndingsAreToldApart = (bytes : List ℕ) (front : List LineItem) (item : LineItem) (rest : List LineItem) → HasItem bytes front item rest → item.ending ≡ lf → ends_in_return item.content ≡ false

pub record IsLine (item : LineItem) (rest : List LineItem) : Type 0 where
  pub no_line_feed : list_any is_lf item.content ≡ false
  pub last : item.ending ≡ unended → (rest ≡ []) × (item.content ≢ [])
  pub no_return : item.ending ≡ lf → ends_in_return item.content ≡ false

abbrev pub AreLines : List LineItem → Type 0
AreLines [] = Unit
AreLines (item ∷ rest) = IsLine item rest × AreLines rest

pub lines_behind : (bytes : List ℕ) (front lines : List LineItem) → NoLineFeedInside → OnlyTheLastIsUnended → EndingsAreToldApart → items_of bytes ≡ front ++ lines → AreLines lines
lines_behind bytes front [] feeds ends told e = tt
lines_behind bytes front (line ∷ lines) feeds ends told e = (record { no_line_feed = feeds bytes front line lines e; last = ends bytes front line lines e; no_return = told bytes front line lines e }, lines_behind bytes (front ++ line ∷ []) lines feeds ends told (e ∙ sym (append_assoc front (line ∷ []) lines)))

abbrev pub LinesAreUnique : Type 0
LinesAreUnique = (items : List LineItem) → AreLines items → items_of (joined items) ≡ items

abbrev pub ContentsAreThoseOfItems : Type 0
ContentsAreThoseOfItems = (bytes : List ℕ) → contents bytes ≡ map (λ item. item.content) (items_of bytes)

abbrev pub HexReadsPutHex : Type 0
HexReadsPutHex = (c : ℕ) → c < 1114112 → point_of (hex_text c) ≡ Some c
