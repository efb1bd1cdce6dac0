-- The tokens that the code holds, as the definitions name them.
-- sign_view t      the token
-- lexeme_view l    the token and its size
use Rattle.unicodeset_parser.specs.Tokens.{Sign, open_set, close, dash, meet, letter, property, wrong, Lexed}
use Rattle.unicodeset_parser.specs.Views.{tree_view}
use Rattle.unicodeset_parser.specs.declared.token.Token.{Token}
use Rattle.unicodeset_parser.specs.declared.token.Token.TheVariants.{Open, Close, Dash, And, Letter, Property, Wrong}
use Rattle.unicodeset_parser.specs.declared.token.Lexeme.{Lexeme}

abbrev pub sign_view : Token → Sign
sign_view (Open negated) = open_set negated
sign_view Close = close
sign_view Dash = dash
sign_view And = meet
sign_view (Letter c) = letter c
sign_view (Property expr) = property (tree_view expr)
sign_view (Wrong w) = wrong w

abbrev pub lexeme_view : Lexeme → Lexed
lexeme_view l = record { sign = sign_view l.token; size = l.size }
