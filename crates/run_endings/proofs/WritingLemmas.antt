-- Files that are put one after the other.
use Rattle.std.proofs.Common.{◌≡◌, ◌≢◌, ℕ, zero, suc, IsTrue, ◌+◌, ◌-◌, ◌<◌, ◌≤◌, Bool, true, false, cond, List, [], ◌∷◌, ◌++◌, length, take, drop, map, get_or, Some, refl, sym, ap, ◌∙◌, arith, slice_get, bytes_eq}
use Rattle.std.proofs.lemmas.List.{drop_more, take_more, length-map}
use Rattle.std.proofs.lemmas.Slice.Eq.{bytes_eq-Decides}
use Rattle.std.proofs.lemmas.Option.{slice_get-get_or}
use Rattle.run_endings.specs.Endings.{Contents, NewFile, put, after}
use Rattle.run_endings.specs.Writing.{file_of, files_of, StoppedAt}
use Rattle.run_endings.specs.declared.output.Output.{Output}

after_push : (files : List NewFile) (file : NewFile) (holds : Contents) → after (files ++ file ∷ []) holds ≡ put file (after files holds)
after_push [] file holds = refl
after_push (f ∷ files) file holds = after_push files file (put f holds)

-- what is done, and what is left
pub record IsLeft (outputs rest : List Output) : Type 0 where
  pub few : length rest ≤ length outputs
  pub suffix : rest ≡ drop (length outputs - length rest) outputs

-- the files that are done, in order, replaced
abbrev pub done_of : List Output → List Output → List NewFile
done_of outputs rest = take (length outputs - length rest) (files_of outputs)

pub left_next : (outputs rest : List Output) (output : Output) → IsLeft outputs (output ∷ rest) → IsLeft outputs rest
left_next outputs rest output left =
    let few = left.few in
    let at : ℕ = length outputs - suc (length rest) in
    let inside : at < length outputs = omega arith in
    let cut : drop at outputs ≡ get_or outputs at output ∷ drop (at + 1) outputs = drop_more outputs at output inside in
    let next : at + 1 ≡ length outputs - length rest = omega arith in
    let tails : rest ≡ drop (at + 1) outputs = cc (left.suffix, cut) in
    record { few = omega arith; suffix = tails ∙ ap (λ (n : ℕ). drop n outputs) next }

-- the next output, and its place
pub next_output : (outputs rest : List Output) (output : Output) → IsLeft outputs (output ∷ rest) → get_or outputs (length outputs - suc (length rest)) output ≡ output
next_output outputs rest output left =
    let few = left.few in
    let at : ℕ = length outputs - suc (length rest) in
    let inside : at < length outputs = omega arith in
    let cut : drop at outputs ≡ get_or outputs at output ∷ drop (at + 1) outputs = drop_more outputs at output inside in
    cc (left.suffix, cut)

get_or-map : {A B : Type 0} (f : A → B) (xs : List A) (i : ℕ) (d : A) → get_or (map f xs) i (f d) ≡ f (get_or xs i d)
get_or-map f [] i d = refl
get_or-map f (x ∷ xs) zero d = refl
get_or-map f (x ∷ xs) (suc i) d = get_or-map f xs i d

pub done_next : (outputs rest : List Output) (output : Output) → IsLeft outputs (output ∷ rest) → done_of outputs rest ≡ done_of outputs (output ∷ rest) ++ file_of output ∷ []
done_next outputs rest output left =
    let few = left.few in
    let at : ℕ = length outputs - suc (length rest) in
    let inside : at < length (files_of outputs) = omega (arith, length-map outputs file_of) in
    let next : length outputs - length rest ≡ at + 1 = omega arith in
    ap (λ (n : ℕ). take n (files_of outputs)) next ∙ take_more (files_of outputs) at (file_of output) inside
    ∙ ap (λ (f : NewFile). take at (files_of outputs) ++ f ∷ []) (get_or-map file_of outputs at output ∙ ap file_of (next_output outputs rest output left))

-- one write more
pub contents_next : (outputs rest : List Output) (output : Output) (old now new : Contents) → IsLeft outputs (output ∷ rest)
    → ((path : List ℕ) → now path ≡ after (done_of outputs (output ∷ rest)) old path)
    → new output.path ≡ Some output.bytes → ((path : List ℕ) → path ≢ output.path → new path ≡ now path)
    → (path : List ℕ) → new path ≡ after (done_of outputs rest) old path
contents_next outputs rest output old now new left before here others path =
    let done : after (done_of outputs rest) old path ≡ cond (bytes_eq output.path path) (Some output.bytes) (after (done_of outputs (output ∷ rest)) old path) =
    ap (λ (files : List NewFile). after files old path) (done_next outputs rest output left)
    ∙ ap (λ (h : Contents). h path) (after_push (done_of outputs (output ∷ rest)) (file_of output) old) in
    elim (bytes_eq output.path path) as (λ b. bytes_eq output.path path ≡ b → new path ≡ cond b (Some output.bytes) (after (done_of outputs (output ∷ rest)) old path)) [
      | true ↦ λ e. let same : output.path ≡ path = (bytes_eq-Decides output.path path).0 e in ap new (sym same) ∙ here
      | false ↦ λ e. others path (λ same. absurd (let yes : bytes_eq output.path path ≡ true = (bytes_eq-Decides output.path path).1 (sym same) in cc)) ∙ before path
    ] refl ∙ sym done

pub output_here : (outputs rest : List Output) (output : Output) → IsLeft outputs (output ∷ rest) → slice_get outputs (length outputs - suc (length rest)) ≡ Some output
output_here outputs rest output left =
    let few = left.few in
    let at : ℕ = length outputs - suc (length rest) in
    let inside : at < length outputs = omega arith in
    slice_get-get_or outputs at output inside ∙ ap Some (next_output outputs rest output left)

pub stops_here : (outputs rest : List Output) (output : Output) (tells : Bool) (old now new : Contents) → IsLeft outputs (output ∷ rest)
    → (IsTrue tells → (path : List ℕ) → now path ≡ after (done_of outputs (output ∷ rest)) old path)
    → (IsTrue tells → (path : List ℕ) → path ≢ output.path → new path ≡ now path)
    → StoppedAt output.fault_line outputs tells old new
stops_here outputs rest output tells old now new left before others =
    (length outputs - suc (length rest), output, record { here = output_here outputs rest output left; told = refl; others = λ told path differs. others told path differs ∙ before told path })
