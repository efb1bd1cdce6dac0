-- What a step of reading found, where the whole gave a row.
use Rattle.std.proofs.Common.{◌≡◌, Bool, true, false, cond, Option, Some, None, Result, Ok, Err, refl}
use Rattle.source_rows.specs.Steps.{or_fault, and_then}
use Rattle.source_rows.specs.declared.fault.RowFault.{RowFault}

-- a test that was passed, and one that was failed
pub passed : {B : Type 0} (b : Bool) (r : Result B RowFault) (f : RowFault) (x : B) → cond b r (Err f) ≡ Ok x → (b ≡ true) × (r ≡ Ok x)
passed true r f x h = (refl, h)
passed false r f x h = absurd cc

pub failed : {B : Type 0} (b : Bool) (r : Result B RowFault) (f : RowFault) (x : B) → cond b (Err f) r ≡ Ok x → (b ≡ false) × (r ≡ Ok x)
failed true r f x h = absurd cc
failed false r f x h = (refl, h)

pub guarded : {A : Type 0} (b : Bool) (o : Option A) (x : A) → cond b o None ≡ Some x → (b ≡ true) × (o ≡ Some x)
guarded true o x h = (refl, h)
guarded false o x h = absurd cc

pub none_either : {A : Type 0} (b : Bool) → cond {A = Option A} b None None ≡ None
none_either true = refl
none_either false = refl

pub found : {A B : Type 0} (fault : RowFault) (o : Option A) (f : A → Result B RowFault) (x : B) → or_fault fault o f ≡ Ok x → (a : A) × (o ≡ Some a) × (f a ≡ Ok x)
found fault (Some a) f x h = (a, refl, h)
found fault None f x h = absurd cc

pub after : {A B : Type 0} (r : Result A RowFault) (f : A → Result B RowFault) (x : B) → and_then r f ≡ Ok x → (a : A) × (r ≡ Ok a) × (f a ≡ Ok x)
after (Ok a) f x h = (a, refl, h)
after (Err fault) f x h = absurd cc
