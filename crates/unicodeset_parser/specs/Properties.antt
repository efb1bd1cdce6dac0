-- Properties in a text. UTS #35, "Unicode Sets".
-- not_equal                      the bytes of 2260, the not-equal sign
-- parted negated name at         the property of a name: its first `=` parts property and value; refused where the value begins with `/`
-- property_sign negated name at  the property of a name, or its complement; refused where the name has a not-equal sign
-- property_at at negated n closing bs   the property whose name goes to the first closing in the bytes; n bytes stand before it.
--                                Unclosed where there is none
-- braces at negated bs           the form `\p{NAME}` or `\P{NAME}`, from what stands behind its `p`
use Rattle.std.specs.Prelude.{ℕ, ◌+◌, Bool, ◌==◌, nat_lt, List, [], ◌∷◌, length, take, Option, Some, None, if◌then◌else◌, is_some}
use Rattle.std.specs.List.{position_or_len, before_first, after_first}
use Rattle.unicodeset_parser.specs.Bytes.{begins_with, found_at}
use Rattle.unicodeset_parser.specs.Escapes.{bad_escape}
use Rattle.unicodeset_parser.specs.Trees.{named, valued, negated_by}
use Rattle.unicodeset_parser.specs.Tokens.{Sign, Lexed, sized, property, wrong}
use Rattle.unicodeset_parser.specs.declared.token.BadToken.TheVariants.{Unclosed, RefusedName}

abbrev pub not_equal : List ℕ
not_equal = 226 ∷ 137 ∷ 160 ∷ []

abbrev pub is_equals : ℕ → Bool
is_equals b = b == 61

unfoldable pub parted : Bool → List ℕ → ℕ → Sign
parted negated name at = if begins_with 47 (after_first is_equals name) then wrong RefusedName else property (negated_by negated (valued (before_first is_equals name) (after_first is_equals name) at))

unfoldable pub property_sign : Bool → List ℕ → ℕ → Sign
property_sign negated name at = if is_some (found_at not_equal name) then wrong RefusedName else (if nat_lt (position_or_len is_equals name) (length name) then parted negated name at else property (negated_by negated (named name at)))

abbrev pub closed_at : ℕ → Bool → ℕ → List ℕ → List ℕ → Option ℕ → Lexed
closed_at at negated n closing bs None = sized 1 (wrong Unclosed)
closed_at at negated n closing bs (Some k) = sized (n + k + length closing) (property_sign negated (take k bs) at)

unfoldable pub property_at : ℕ → Bool → ℕ → List ℕ → List ℕ → Lexed
property_at at negated n closing bs = closed_at at negated n closing bs (found_at closing bs)

abbrev pub braces : ℕ → Bool → List ℕ → Lexed
braces at negated [] = sized 1 (wrong Unclosed)
braces at negated (b ∷ bs) = if b == 123 then property_at at negated 3 (125 ∷ []) bs else bad_escape
