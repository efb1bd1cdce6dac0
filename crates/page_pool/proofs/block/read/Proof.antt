-- `read` reads one word through a raw pointer into the slice: a walk of its MIR by hand.
-- A walk is a list of steps over a context, the things that are owned, which comments show as [first; second; ..].
use Rattle.std.proofs.Common.{ℕ, ◌+◌, ◌*◌, ◌^◌, ◌<◌, List, [], ◌∷◌, length, get_or, sym, refl, arith, w64, Bor}
use seplogic.Ra.Ura.{Ura}
use mir.Syntax.{Body, ty_int, named, seq, assign, place, rv_opd, copy, return}
use mir.Val.{Val, vint}
use base.Logic.{SProp, ent}
use base.Fml.{Lft, Share, ftrue, fat, flft}
use prog.Memory.{Memory}
use prog.Routine.{Routine}
use prog.Wp.{Env, Calls, Loops, WpFn, Tables}
use types.Logic.{Logic}
use contract.Monad.{Fun}
use contract.Running.{tables, tables_of}
use sound.WpLaws.{WpFn-mono}
use types.Kit.{‵, ◌⊛◌, ⋆, at_ret, ◌$◌, ◌∵◌, !, qed, by, move, keep, use1, use2, drop, split, join, fsplit, rewrite, suffices, done}
use types.Part.{whole, sub}
use types.Run.{look, stop, fld, load, addr, hop, from, lit, of_opd, bin, first, blocks, exec, returns, enter, well_typed}
use types.ByLocal.{alloc_all, pass_all, free_all, look_at, look_in_at, get, through, sets, sets_last, env}
use denote.Copied.{uint_Copied}
use denote.Exit.{yes}
use denote.RattleType.{owns}
use denote.Memory.{part_at, shares}
use denote.Plain.{uint_vals, uint_Tells, uint_in, uint_out, uint_Makes}
use denote.Slice.{ShrSlice, Room, slice_val, shr_slice_vals, shr_slice_Tells}
use denote.Index.{row, others, takes, puts_back, place_is, looks_slice, shuts_slice, place as nth}
use denote.Builtin.{u64, usize, SliceRefOf}
use denote.Signature.{plain}
use denote.Steps.{nothing, owned}
use denote.Triple.Clauses.{Clauses}
use denote.Triple.Entry.{on_entry}
use denote.Triple.Spec.{Meets, triple_of}
use denote.Triple.Table.{entered}
use denote.Triple.Walked.{says, needs, Stays, stay_dropped, walk_of, ends_at, walked, Goes-dropped, walk_Meets}
use Rattle.page_pool.specs.contracts.block.read.Key.{name as #read}
use Rattle.page_pool.specs.contracts.block.read as read
use Rattle.page_pool.proofs.block.read.Statement as stated
use Rattle.page_pool.proofs.block.read.Code as code

-- what the function still has of each parameter when it returns: nothing
abbrev stayed : Stays (read.ended).signature.params (read.ended).kept
stayed = (stay_dropped (SliceRefOf (0 ∷ []) tt (plain (λ _. u64)) (λ _. tt)) yes, (stay_dropped (plain (λ _. usize)) yes, tt))

-- the MIR after the `unsafe` block: its value goes to the result
abbrev after_block : Body
after_block = seq (assign (place 0 []) (rv_opd (copy (place 4 [])))) return

module _ {M : Type 1} {𝓤 : Ura M} (𝓛 : Logic 𝓤) (at_mem : Memory → SProp 𝓤) (run : Routine → Fun 𝓤) where
  open 𝓛 use {H}

  abbrev clauses : Clauses 𝓤 read.ended
  clauses = read.clauses 𝓛 at_mem run

  -- the slice is lent for κ, lies at the offset o of the block b, and holds xs
  module _ (κ : Lft) (q : Share) (b o : ℕ) (xs : List ℕ) (i : ℕ) where
    abbrev buf : Bor (List ℕ)
    buf = record { ref_ptr = (b, o); now = xs }

    abbrev words : List Val × (List Val × Unit {0})
    words = (shr_slice_vals buf, (vint w64 i ∷ [], tt))

    abbrev bound : (walk_of 𝓛 read.ended stayed clauses).Ghost
    bound = (((κ, tt), (q, tt), tt, (buf, (i, tt)), words), tt)

    abbrev Post : Val → SProp 𝓤
    Post = (walk_of 𝓛 read.ended stayed clauses).post bound

    abbrev word : ℕ
    word = get_or xs i 0

    -- the cell of element i is taken out of a share of the row, and put back
    cell_out : (p : Share) → i < length xs → ent 𝓤 (⋆ 𝓛 (‵ (row u64 p xs b o) ∷ [])) (⋆ 𝓛 (‵ (fat p (ty_int w64) b (i * 8 + o) (vint w64 word)) ∷ ‵ (others (shares u64) p xs i b o) ∷ []))
    cell_out p inside =
        qed 𝓛 (‵ (row u64 p xs b o) ∷ []) ∵
        use1 𝓛 (‵ (part_at u64 p word b (nth 8 o i)) ⊛ ‵ (others (shares u64) p xs i b o)) (takes (shares u64) p 𝓛 xs i 0 b o inside) $ split ! $
        rewrite ! 0 (λ (k : ℕ). ‵ (part_at u64 p word b k)) (place_is 8 o i) refl $
        use1 𝓛 (‵ (fat p (ty_int w64) b (i * 8 + o) (vint w64 word))) (uint_out 𝓛 p w64 word b (i * 8 + o)) $ done !

    cell_in : (p : Share) → i < length xs → ent 𝓤 (⋆ 𝓛 (‵ (fat p (ty_int w64) b (i * 8 + o) (vint w64 word)) ∷ ‵ (others (shares u64) p xs i b o) ∷ [])) (⋆ 𝓛 (‵ (row u64 p xs b o) ∷ []))
    cell_in p inside =
        qed 𝓛 (‵ (fat p (ty_int w64) b (i * 8 + o) (vint w64 word)) ∷ ‵ (others (shares u64) p xs i b o) ∷ []) ∵
        use1 𝓛 (‵ (part_at u64 p word b (i * 8 + o))) (uint_in 𝓛 p w64 word b (i * 8 + o)) $
        rewrite ! 0 (λ (k : ℕ). ‵ (part_at u64 p word b k)) (sym (place_is 8 o i)) refl $
        by ! (puts_back (shares u64) p 𝓛 xs i 0 b o inside)

    -- the end: the `ensures`, the token of κ, and the result
    exits : word < 2 ^ 64 → ent 𝓤 (⋆ 𝓛 (‵ (flft κ q) ∷ [])) (Post (vint w64 word))
    exits fits =
        qed 𝓛 (‵ (flft κ q) ∷ []) ∵
        suffices ! _ (ends_at 𝓛 read.ended stayed clauses bound (vint w64 word) word (tt, (tt, tt)) (tt, (tt, tt))) $ says ! refl $
        owned ! u64 _ (uint_Makes 𝓛 w64) word _ (refl, fits) $
        nothing ! $ nothing ! $ join ! $ nothing ! $ join ! $ nothing ! $ move ! (3 ∷ 0 ∷ []) $ join ! $ done !

    module _ (C : Calls 𝓤 H) (Λ : Loops 𝓤 H) where
      walk : Room u64 (length xs) → i < length xs
          → ent 𝓤 (on_entry 𝓛 read.signature (κ, tt) (q, tt) (buf, (i, tt)) words) (WpFn 𝓤 H C Λ code.function (slice_val (b, o) (length xs) ∷ vint w64 i ∷ []) Post)
      walk room inside =
          let count : length xs < 2 ^ 64 = room.0 in
          let bytes : length xs * 8 < 2 ^ 63 = room.1 in
          let fi : i < 2 ^ 64 = omega arith in
          let offset : i * 8 < 2 ^ 64 = omega arith in
          qed 𝓛 ((‵ (flft κ q) ⊛ ‵ ftrue) ∷ ‵ (owns (ShrSlice (named 0) κ u64 ∷ usize ∷ []) (buf, (i, tt)) words) ∷ []) ∵
          enter ! C Λ code.function (slice_val (b, o) (length xs) ∷ vint w64 i ∷ []) _ $
          alloc_all ! (λ l. pass_all ! refl ((tt, (tt, (record { fits = count }, tt))), ((tt, record { fits = fi }), tt)) $
          let En : Env 𝓤 H = env (code.function).locals l in
          move ! (1 ∷ []) $ fsplit ! $ fsplit ! $ drop ! $ move ! (2 ∷ []) $ split ! $ move ! (2 ∷ 0 ∷ []) $
          -- [the shared elements; the token of κ; ..]
          looks_slice ! tt u64 (uint_Copied 𝓛 w64) xs b o (λ p.
          use1 𝓛 (‵ (fat p (ty_int w64) b (i * 8 + o) (vint w64 word)) ⊛ ‵ (others (shares u64) p xs i b o)) (cell_out p inside) $ split ! $ well_typed ! (λ good.
          -- [the cell; the other elements; what shuts the slice; the shared elements; ..]. From here, one step for each statement of the MIR.
          -- let start = words.as_ptr();
          sets ! (addr ! (from ! (fld ! refl (hop ! (look_in_at ! 1 (sub ! 0 refl (whole !))) (stop !))))) refl (tt, tt) $
          first ! $ blocks ! $
          -- start.add(at)
          sets ! (bin ! (get ! refl) (lit ! tt) (record { fits = offset })) refl (tt, record { fits = offset }) $
          sets ! (bin ! (get ! refl) (get ! refl) tt) refl (tt, tt) $
          -- *start.add(at);  the cell is item 0
          sets_last ! (of_opd ! (load ! (through ! refl (stop !)) (look ! 0 refl))) refl good $
          exec ! C Λ En after_block (at_ret En Post) $
          sets ! (of_opd ! (get ! refl)) refl good $
          use2 𝓛 (‵ (row u64 p xs b o)) (cell_in p inside) $ shuts_slice ! tt u64 p xs b o $
          returns ! (look_at ! 0 refl) $ free_all ! refl $ keep ! (0 ∷ []) $ by ! (exits good.1.fits))))

  meets : (𝓣 : Tables 𝓤 H) → Meets 𝓛 read.signature (WpFn 𝓤 H 𝓣.C 𝓣.Λ code.function) (read.spec 𝓛 at_mem run)
  meets 𝓣 =
      walk_Meets 𝓛 read.ended stayed
      (Goes-dropped 𝓛 1 (SliceRefOf (0 ∷ []) tt (plain (λ _. u64)) (λ _. tt)) yes (λ κs x f. refl), (Goes-dropped 𝓛 1 (plain (λ _. usize)) yes (λ κs x f. refl), tt))
      clauses (WpFn 𝓤 H 𝓣.C 𝓣.Λ code.function) (WpFn-mono 𝓤 H 𝓛.laws 𝓣 code.function)
      (walked 𝓛 read.ended stayed clauses (WpFn 𝓤 H 𝓣.C 𝓣.Λ code.function)
      (λ κs. (shr_slice_vals, (uint_vals w64, tt))) (λ κs. (shr_slice_Tells (named 0) κs.0 u64, (uint_Tells w64, tt)))
      (λ κs qs bounds a g are. needs 𝓤 (a.1.0 < length a.0.now) _
      (walk κs.0 qs.0 a.0.ref_ptr.0 a.0.ref_ptr.1 a.0.now a.1.0 𝓣.C 𝓣.Λ are.0.0.1)))

pub read_spec : {M : Type 1} → stated.statement M
unfolding tables_of
read_spec 𝓤 𝓛 𝓜 𝓡 wired =
    entered 𝓤 𝓛.H (triple_of 𝓛 read.signature (read.spec 𝓛 𝓜.mem 𝓡.returns))
    (tables 𝓤 𝓛.H 𝓜 𝓡 𝓡.env).C (tables 𝓤 𝓛.H 𝓜 𝓡 𝓡.env).Λ #read code.function (code.unfolded 𝓤 𝓛.H 𝓜 𝓡 wired)
    (meets 𝓛 𝓜.mem 𝓡.returns (tables_of 𝓤 𝓛.H 𝓜 (tables 𝓤 𝓛.H 𝓜 𝓡 𝓡.env)))
