-- What a desk stands for, event by event.
use Rattle.std.proofs.Common.{◌≡◌, ℕ, ◌+◌, ◌==◌, max, Bool, true, false, not, ◌||◌, ◌&&◌, nat_lt, List, [], ◌∷◌, map, length, Option, Some, None, Result, Ok, Err, refl, sym, ap, subst, ◌∙◌, if◌then◌else◌, IfOk, OnOk, arith, length-append, eqb-true, ◌≤◌, is_eq, nat_cmp, le-ltb}
use Rattle.std.specs.BTreeSet.{BTreeSet, contains}
use Rattle.std.specs.List.{All, fold, list_any, position, prefix_len}
use Rattle.std.proofs.Math.Path.{fun_ext}
use Rattle.std.proofs.lemmas.Bool.Decides.{nat_tests}
use Rattle.std.proofs.lemmas.List.{get_or-map, length-map}
use Rattle.std.proofs.lemmas.List.Elements.{All-map}
use Rattle.std.proofs.lemmas.List.Folds.{fold-map}
use Rattle.ucd_points.specs.SourceFiles.{file_place}
use Rattle.ucd_points.specs.declared.memory.Memory.{Memory}
use Rattle.source_rows.specs.Keys.{same_code, same_texts}
use Rattle.release_rows.specs.FileItems.{FileItem}
use Rattle.release_rows.specs.declared.operation.Op.{Op}
use Rattle.edit_session.specs.Groups.{AppliesAs, CountsAs, after_ops, files_facts, group_answer}
use Rattle.edit_session.specs.declared.accepted.Accepted.{Accepted as Accepts}
use Rattle.edit_session.specs.declared.apply_stop.Refused.{Refused as Why}
use Rattle.bench_editors.specs.Rows.{Touched, last_passing, row_of, same_row, touches, touches_any}
use Rattle.bench_editors.specs.RowKeys.{KeyParts, key_parts, last_in, row_parts, same_parts, start_of}
use Rattle.bench_editors.specs.Desks.{DeskState, EventCounts, answer, carried, early_reply, is_stale, revision_of, stale_at, stale_reply, with_group, without}
use Rattle.bench_editors.specs.Standing.{GroupAnswered, IsAsBefore, StandsFor, TakesUp, desk_bench, desk_has, desk_last, desk_revision}
use Rattle.bench_editors.specs.declared.desk.Desk.{Desk}
use Rattle.bench_editors.specs.declared.event.Event.TheVariants.{Propose}
use Rattle.bench_editors.specs.declared.reply.Reply.{Reply}
use Rattle.bench_editors.specs.declared.reply.Reply.TheVariants.{Accepted, Stale}
use Rattle.bench_editors.specs.declared.row_key.RowKey.{RowKey}
use Rattle.bench_editors.proofs.GroupLemmas.{greatest_is, one_more}
use Rattle.bench_editors.proofs.KeyLemmas.{number_tells}

-- ---- editors

abbrev is_in : ℕ → List ℕ → Bool
is_in q editors = list_any (λ e. e == q) editors

-- of one editor before the others
lacks_one : (e editor q : ℕ) (more rest : Bool) → more ≡ (if editor == q then false else rest)
    → (if not (e == editor) then (e == q) || more else more) ≡ (if editor == q then false else (e == q) || rest)
lacks_one e editor q more rest h = by (e == editor) (editor == q) (e == q) refl refl refl
  where
    by : (a b c : Bool) → (e == editor) ≡ a → (editor == q) ≡ b → (e == q) ≡ c
        → (if not (e == editor) then (e == q) || more else more) ≡ (if editor == q then false else (e == q) || rest)
    by true true c x y z = rw (x, h, y) refl
    by true false true x y z = absurd (let k : (e == q) ≡ (editor == q) = ap (λ n. n == q) (eqb-true e editor x) in cc)
    by true false false x y z = rw (x, h, y, z) refl
    by false true true x y z = absurd (let k : (e == editor) ≡ (e == q) = ap (λ n. e == n) (eqb-true editor q y) in cc)
    by false true false x y z = rw (x, z, h, y) refl
    by false false c x y z = rw (x, h, y) refl

lacks : (editor q : ℕ) (editors : List ℕ) → is_in q (without editor editors) ≡ (if editor == q then false else is_in q editors)
lacks editor q [] = elim (editor == q) as (λ b. false ≡ (if b then false else false)) [ true ↦ refl | false ↦ refl ]
lacks editor q (e ∷ editors) = through (e == editor) ∙ lacks_one e editor q (is_in q (without editor editors)) (is_in q editors) (lacks editor q editors)
  where
    through : (b : Bool) → is_in q (if not b then e ∷ without editor editors else without editor editors) ≡ (if not b then (e == q) || is_in q (without editor editors) else is_in q (without editor editors))
    through true = refl
    through false = refl

pub went : (d : Desk) (editors : BTreeSet ℕ) (s : DeskState) (editor : ℕ) → ((q : ℕ) → contains nat_cmp editors q ≡ (if is_eq (nat_cmp editor q) then false else contains nat_cmp d.editors q))
    → StandsFor d s → StandsFor (record d { editors = editors }) (record { files = s.files; editors = without editor s.editors; groups = s.groups })
went d editors s editor updates st = record {
  files = st.files;
  editors = λ q. updates q ∙ rw (number_tells editor q, st.editors q) (sym (lacks editor q s.editors));
  revision = st.revision;
  touched = st.touched;
}

-- ---- rows by their parts

next_tells : (x y : ℕ) → (x + 1 == y + 1) ≡ (x == y)
next_tells x y = grind (arith, nat_tests)

never_next : (x : ℕ) → (x + 1 == 0) ≡ false
never_next x = grind (arith, nat_tests)

none_next : (x : ℕ) → (0 == x + 1) ≡ false
none_next x = grind (arith, nat_tests)

starts_tell : (a b : Option ℕ) → (start_of a == start_of b) ≡ same_code a b
starts_tell (Some x) (Some y) = next_tells x y
starts_tell (Some x) None = never_next x
starts_tell None (Some y) = none_next y
starts_tell None None = refl

turned : (a b c : Bool) → ((a && b) && c) ≡ (a && (c && b))
turned true true true = refl
turned true true false = refl
turned true false true = refl
turned true false false = refl
turned false b c = refl

pub rows_tell : (a b : Touched) → same_parts (row_parts a) (row_parts b) ≡ same_row a b
rows_tell a b =
    rw (starts_tell a.key.code b.key.code) (turned (file_place a.file == file_place b.file) (same_code a.key.code b.key.code) (same_texts a.key.names b.key.names))

-- ---- keys and operations

abbrev AreKeysOf : List RowKey → List Op → Type 0
AreKeysOf keys ops = map key_parts keys ≡ map (λ op. row_parts (row_of op)) ops

module _ {A B : Type 0} (v : A → B) where
  any_map : (p : B → Bool) (xs : List A) → list_any p (map v xs) ≡ list_any (λ x. p (v x)) xs
  any_map p [] = refl
  any_map p (x ∷ xs) = ap (λ (b : Bool). p (v x) || b) (any_map p xs)

  prefix_map : (p : B → Bool) (xs : List A) → prefix_len p (map v xs) ≡ prefix_len (λ x. p (v x)) xs
  prefix_map p [] = refl
  prefix_map p (x ∷ xs) = ap (λ (n : ℕ). if p (v x) then 1 + n else 0) (prefix_map p xs)

  position_map : (p : B → Bool) (xs : List A) → position p (map v xs) ≡ position (λ x. p (v x)) xs
  position_map p xs = rw (prefix_map (λ y. not (p y)) xs, length-map xs v) refl

pub touches_by : (keys : List RowKey) (ops : List Op) (row : Touched) → AreKeysOf keys ops → list_any (λ key. same_parts (row_parts row) (key_parts key)) keys ≡ touches row ops
touches_by keys ops row same =
    sym (any_map key_parts (same_parts (row_parts row)) keys) ∙ ap (list_any (same_parts (row_parts row))) same ∙ any_map (λ (op : Op). row_parts (row_of op)) (same_parts (row_parts row)) ops
    ∙ ap (λ (t : Op → Bool). list_any t ops) (fun_ext (λ op. rows_tell row (row_of op)))

stale_by : (keys : List RowKey) (ops : List Op) (d : Desk) (s : DeskState) (base : ℕ) → AreKeysOf keys ops → StandsFor d s
    → position (λ key. nat_lt base (last_in d.rows (key_parts key))) keys ≡ position (is_stale s.groups base) ops
stale_by keys ops d s base same st =
    sym (position_map key_parts (λ parts. nat_lt base (last_in d.rows parts)) keys) ∙ ap (position (λ parts. nat_lt base (last_in d.rows parts))) same
    ∙ position_map (λ (op : Op). row_parts (row_of op)) (λ parts. nat_lt base (last_in d.rows parts)) ops
    ∙ ap (λ (t : Op → Bool). position t ops) (fun_ext (λ op. ap (nat_lt base) (st.touched (row_of op))))

greatest_by : (keys : List RowKey) (ops : List Op) (d : Desk) (s : DeskState) → AreKeysOf keys ops → StandsFor d s
    → fold (λ n key. max n (last_in d.rows (key_parts key))) 0 keys ≡ last_passing (touches_any ops) s.groups
greatest_by keys ops d s same st =
    sym (fold-map (λ n parts. max n (last_in d.rows parts)) key_parts 0 keys) ∙ ap (fold (λ n parts. max n (last_in d.rows parts)) 0) same
    ∙ fold-map (λ n parts. max n (last_in d.rows parts)) (λ (op : Op). row_parts (row_of op)) 0 ops
    ∙ ap (λ (f : Op → ℕ). fold (λ n op. max n (f op)) 0 ops) (fun_ext (λ op. st.touched (row_of op))) ∙ greatest_is s.groups ops

-- ---- replies before the operations

-- an editor who is present proposes against a revision that there is
module _ (d : Desk) (editor base : ℕ) (keys : List RowKey) (ops : List Op) (same : AreKeysOf keys ops) (here : desk_has d editor ≡ true) (seen : base ≤ desk_revision d) where
  comes_to : (s : DeskState) → StandsFor d s → early_reply s editor base ops ≡ stale_reply s.groups base ops
  comes_to s st =
      let there : nat_lt (revision_of s) base ≡ false = rw (← st.revision) (le-ltb (desk_revision d) base seen) in
      rw (sym (st.editors editor) ∙ here, there) refl

  pub tells_stale : (first greatest : ℕ) → Some first ≡ position (λ key. nat_lt base (last_in d.rows (key_parts key))) keys
      → greatest ≡ fold (λ n key. max n (last_in d.rows (key_parts key))) 0 keys → (s : DeskState) → StandsFor d s → early_reply s editor base ops ≡ Some (Stale greatest (first + 1))
  tells_stale first greatest at is s st =
      comes_to s st ∙ ap (stale_at s.groups ops) (sym (at ∙ stale_by keys ops d s base same st)) ∙ ap (λ (n : ℕ). Some (Stale n (first + 1))) (sym (is ∙ greatest_by keys ops d s same st))

  pub none_is_stale : None ≡ position (λ key. nat_lt base (last_in d.rows (key_parts key))) keys → (s : DeskState) → StandsFor d s → early_reply s editor base ops ≡ None
  none_is_stale at s st = comes_to s st ∙ ap (stale_at s.groups ops) (sym (at ∙ stale_by keys ops d s base same st))

-- ---- a group that comes to its operations

takes_up : (d e : Desk) (s : DeskState) (ops : List Op) (files : List (List FileItem)) → TakesUp ops files d e → StandsFor d s → StandsFor e (with_group s ops files)
takes_up d e s ops files t st = record {
  files = ap (λ r. r.current) t.bench;
  editors = λ q. t.editors q ∙ st.editors q;
  revision = t.revision ∙ ap (λ (n : ℕ). n + 1) st.revision ∙ sym (length-append s.groups (ops ∷ []));
  touched = λ row. t.touched row ∙ rw (st.revision, st.touched row) (sym (one_more (touches row) s.groups ops));
}

pub stands_as_before : (d e : Desk) (s : DeskState) → IsAsBefore d e → StandsFor d s → StandsFor e s
stands_as_before d e s same st = record {
  files = ap (λ r. r.current) same.bench ∙ st.files;
  editors = λ q. same.editors q ∙ st.editors q;
  revision = same.revision ∙ st.revision;
  touched = λ row. same.touched row ∙ st.touched row;
}

abbrev Files : Type 0
Files = List (List FileItem)

pub record Follows (reply : Reply) (s : DeskState) (ops : List Op) (expected : Result Files Why) (e : Desk) : Type 0 where
  pub reply_is : reply ≡ (carried s ops expected).reply
  pub state : StandsFor e (carried s ops expected).state

pub follows : (reply : Reply) (expected : Result Files Why) (ops : List Op) (d e : Desk) (s : DeskState) → GroupAnswered (Ok reply) expected ops d e → StandsFor d s → Follows reply s ops expected e
follows reply (Ok files) ops d e s h st = record {
  reply_is = h.0 ∙ rw (st.files, st.revision) refl;
  state = takes_up d e s ops files h.1 st;
}
follows reply (Err why) ops d e s h st = record { reply_is = h.0; state = stands_as_before d e s h.1 st }

-- a group that the bench accepted
pub taken : (accepted : Accepts) (expected : Result Files Why) (ops : List Op) (d e : Desk) → AppliesAs (Ok accepted) expected (desk_bench d) (desk_bench e)
    → ((editor : ℕ) → desk_has e editor ≡ desk_has d editor) → desk_revision e ≡ desk_revision d + 1
    → ((row : Touched) → desk_last e row ≡ (if touches row ops then desk_revision d + 1 else desk_last d row))
    → GroupAnswered (Ok (Accepted (desk_revision d + 1) accepted.changed)) expected ops d e
taken accepted (Ok files) ops d e h editors revision touched =
    (ap (λ (points : List ℕ). Accepted (desk_revision d + 1) points) h.1, record { bench = h.0; editors = editors; revision = revision; touched = touched })
taken accepted (Err why) ops d e h editors revision touched = absurd h

-- what holds of the parts of all operations holds of those of their keys
pub all_by : (P : KeyParts → Type 0) (keys : List RowKey) (ops : List Op) → AreKeysOf keys ops → All (λ op. P (row_parts (row_of op))) ops → All (λ key. P (key_parts key)) keys
all_by P keys ops same h = λ k d lt.
    let many : length (map key_parts keys) ≡ length keys = length-map keys key_parts in
    let all : All P (map key_parts keys) = subst (All P) (sym same) (All-map P (λ (op : Op). row_parts (row_of op)) ops h) in
    subst P (get_or-map key_parts keys k d (key_parts d) lt) (all k (key_parts d) (omega (arith, many)))

-- a proposal that comes to its operations
module _ (editor base : ℕ) (ops : List Op) (d e : Desk) (comes : (s : DeskState) → StandsFor d s → early_reply s editor base ops ≡ None) where
  told : (reply : Reply) → GroupAnswered (Ok reply) (group_answer (desk_bench d).current ops) ops d e → (s : DeskState) → StandsFor d s → Follows reply s ops (group_answer s.files ops) e
  told reply h s st = follows reply (group_answer s.files ops) ops d e s (subst (λ (files : Files). GroupAnswered (Ok reply) (group_answer files ops) ops d e) st.files h) st

  pub replies_so : (result : Result Reply Memory) → GroupAnswered result (group_answer (desk_bench d).current ops) ops d e
      → IfOk result (λ reply. (s : DeskState) → StandsFor d s → reply ≡ (answer s (Propose editor base ops)).reply)
  replies_so (Ok reply) h = λ s st. rw (comes s st) (told reply h s st).reply_is
  replies_so (Err memory) h = tt

  pub stands_so : (result : Result Reply Memory) → GroupAnswered result (group_answer (desk_bench d).current ops) ops d e
      → OnOk result ((s : DeskState) → StandsFor d s → StandsFor e (answer s (Propose editor base ops)).state)
  stands_so (Ok reply) h = λ s st. rw (comes s st) (told reply h s st).state
  stands_so (Err memory) h = tt

  pub counts_so : (old new : ℕ) → CountsAs (after_ops (desk_bench d).current 0 ops) (files_facts (desk_bench d).current) old new
      → (s : DeskState) → StandsFor d s → EventCounts s (Propose editor base ops) old new
  counts_so old new h s st = rw (comes s st) (subst (λ (files : Files). CountsAs (after_ops files 0 ops) (files_facts files) old new) st.files h)
