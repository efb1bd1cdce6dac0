-- Answers that are what was expected, or in its place a fault.
-- IsToldBy fault expected      the fault, where there is one, is what was expected; None says nothing
-- AnswersBy shown fault r e    the answer r shows what was expected, e, or is the fault in its place: `shown` is what a value
--                              shows, and `fault` the fault that an error is; None of an error that says nothing, as that memory ran out
use Rattle.std.specs.Prelude.{◌≡◌, Option, Some, None, Result, Ok, Err, ⊤}

abbrev pub IsToldBy : {T F : Type 0} → Option F → Result T F → Type 0
IsToldBy None expected = ⊤
IsToldBy (Some fault) expected = expected ≡ Err fault

abbrev pub AnswersBy : {K T E F : Type 0} → (K → T) → (E → Option F) → Result K E → Result T F → Type 0
AnswersBy shown fault (Ok kept) expected = expected ≡ Ok (shown kept)
AnswersBy shown fault (Err stop) expected = IsToldBy (fault stop) expected
