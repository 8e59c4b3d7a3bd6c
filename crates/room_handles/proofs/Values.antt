-- The machine values of a `Held`, which is a pointer and the handle of an allocator. Assumes `Logic`.
use Rattle.std.proofs.Common.{◌≡◌, ℕ, List, [], ◌∷◌, ◌++◌, refl, subst}
use mathlib.Core.Bool.{Bool, true, false, ◌&&◌}
use lib.Dec.{T, lit<}
use seplogic.Ra.Ura.{Ura}
use mir.Syntax.{impl, tnil, dnil, ty_ptr}
use mir.Raw.{raw as bare}
use mir.Val.{Val, vptr, vstruct, vcons, vnil, of_list, has_ty, WT}
use base.Logic.{never, fst∗}
use types.Logic.{Logic, sem}
use types.Kit.{Item, Goal, Seq, Step, step, ‵, ◌$◌, move, drop, fsplit, fjoin, fpick, fpack, rewrite, feq_i, feq_l}
use denote.RattleType.{RattleType, Valss}
use denote.Builtin.{RawPtr}
use denote.Memory.{lone}
use denote.RawPtr.{Ptr, block_ptr, null_ptr, ptr_val, in_a_block}
use denote.Steps.{nothing}
use denote.Param.{layout}
use denote.Param.Laws.{Laws}
use denote.Struct.Struct.{within}
use denote.Struct.Owning.{shape}
use Rattle.core.specs.declared.alloc.Allocator.{Ghosts}
use Rattle.core.proofs.alloc.Calls.{Al, handle_tells}
use Rattle.core.proofs.cell.Inside.{Good}
use Rattle.std_alloc.specs.Box.Ownership.{box_owns}
use Rattle.std_alloc.proofs.ResultValues.{and_tt}
use Rattle.room_handles.specs.contracts.held.Held as holder
use Rattle.room_handles.specs.Held.{held}
use Rattle.room_handles.specs.Hidden.{hidden}
use Rattle.room_handles.specs.contracts.hidden.Hidden as hider
use Rattle.room_handles.specs.contracts.hidden.Hidden.{the_row as Hidden}
use Rattle.std.specs.contracts.alloc.Global as heap
use Rattle.std.proofs.alloc.Global.TheLaws as heap_laws
use Rattle.std.specs.contracts.impls.GlobalAllocator.TheImpl.{ghosts}

-- a struct with these two fields
abbrev pub both : Val → Val → Val
both v w = vstruct (vcons v (vcons w vnil))

-- both tests hold
pub both_tt : (x y : Bool) → T x → T y → T (x && (y && true))
both_tt true true s t = tt
both_tt true false s t = absurd t
both_tt false y s t = absurd s

-- each pointer is stored as a value of the type of pointers
pub ptr_good : (p : Ptr) → Good ty_ptr (ptr_val p)
ptr_good (block_ptr b o) = (tt, tt)
ptr_good null_ptr = (tt, record { fits = lit< tt })

-- a pointer beside a handle is stored as a struct of two fields
pub both_good : (Z : RattleType) (p : Ptr) (h : Val) → Good (layout Z) h
    → T (has_ty ty_ptr (ptr_val p) && (has_ty (layout Z) h && true)) × WT (both (ptr_val p) h)
both_good Z p h fits = (both_tt (has_ty ty_ptr (ptr_val p)) (has_ty (layout Z) h) (ptr_good p).0 fits.0, ((ptr_good p).1, (fits.1, tt)))

module _ (R Z : RattleType) (L : Laws Z) (g : Ghosts Z.Denot) where
  -- the row of a `Held`
  abbrev pub Held : RattleType
  Held = holder.the_row R Z g

  -- the handle as an allocator
  abbrev al : Al
  al = record { row = Z; laws = L; g = g; d = impl [] tnil dnil; drops = impl [] tnil dnil }

  -- what stands for a box is stored as a struct of two fields
  pub held_good : (b o : ℕ) (h : Val) → Good (layout Z) h → T (has_ty (layout Z) h && true) × WT (both (vptr b o) h)
  held_good b o h fits = (and_tt (has_ty (layout Z) h) fits.0, (tt, (fits.1, tt)))

  module _ {M : Type 1} {𝓤 : Ura M} {𝓛 : Logic 𝓤} {K : Type 0} {Γ : List (Item 𝓤)} {G : Goal 𝓤 𝓛.H} where
    -- a `Held` is what lies at its pointer, and the handle
    pub taken : K → (d : Held.Denot) (vs : List Val)
        → ((h : Val) → vs ≡ both (ptr_val d.at) h ∷ [] → Good (layout Z) h → Seq K 𝓛 (‵ (held (g.dealloc_token d.alloc) R d.at d.full) ∷ ‵ (Z.own_val d.alloc (h ∷ [])) ∷ Γ) G)
        → Seq K 𝓛 (‵ (Held.own_val d vs) ∷ Γ) G
    taken t d vs k =
        fsplit t $ fpick t (λ vss. fsplit t $ feq_l t (λ ev. fsplit t $ feq_l t (λ ep. fsplit t $ handle_tells al t d.alloc vss.1.0 (λ h ea fits. move t (1 ∷ []) $ drop t $ move t (1 ∷ []) $ k h
        (subst (λ (ws : List Val). vs ≡ vstruct (of_list (ptr_val d.at ∷ (ws ++ []))) ∷ []) ea (subst (λ (ps : List Val). vs ≡ vstruct (of_list (ps ++ (vss.1.0 ++ []))) ∷ []) ep ev)) fits))))

    -- what lies at a pointer, and the handle, are a `Held`
    pub made : K → (p : Ptr) (h : Val) (a : Z.Denot) (f : Bool)
        → Step K 𝓛 (‵ (Held.own_val (record { at = p; alloc = a; full = f }) (both (ptr_val p) h ∷ [])) ∷ Γ) G (‵ (held (g.dealloc_token a) R p f) ∷ ‵ (Z.own_val a (h ∷ [])) ∷ Γ) G
    made t p h a f = step (λ s. let v : Val = both (ptr_val p) h in
        nothing t $ move t (2 ∷ 0 ∷ []) $ fjoin t $ feq_i t (List Val) (ptr_val p ∷ []) (ptr_val p ∷ []) refl $ fjoin t $ feq_i t (List Val) (v ∷ []) (v ∷ []) refl $ fjoin t $
        fpack t (Valss (RawPtr ∷ Z ∷ [])) (within (shape (holder.the_type R Z g)) (p, (a, tt)) (v ∷ [])) (ptr_val p ∷ [], (h ∷ [], tt)) $ fjoin t $ s)

    -- a `Held` with a box is the box and the handle
    pub held_out : K → (d : Held.Denot) (vs : List Val)
        → d.full ≡ true
        → ((b o : ℕ) (h : Val) (x : R.Denot) → vs ≡ both (vptr b o) h ∷ [] → Good (layout Z) h → Seq K 𝓛 (‵ (box_owns (g.dealloc_token d.alloc) R (block_ptr b o) x) ∷ ‵ (Z.own_val d.alloc (h ∷ [])) ∷ Γ) G)
        → Seq K 𝓛 (‵ (Held.own_val d vs) ∷ Γ) G
    held_out t d vs full k = taken t d vs (λ h ws fits. rewrite t 0 (λ (f : Bool). ‵ (held (g.dealloc_token d.alloc) R d.at f)) full refl $ fpick t (λ x.
        in_a_block t d.at (λ p. box_owns (g.dealloc_token d.alloc) R p x) (fst∗ 𝓤 (never 𝓤) (sem 𝓛 (g.dealloc_token d.alloc (bare (lone R.mir)) null_ptr)))
        (λ b o e. k b o h x (subst (λ (p : Ptr). vs ≡ both (ptr_val p) h ∷ []) e ws) fits)))

    -- a box and the handle are a `Held` with a box
    pub held_in : K → (b o : ℕ) (h : Val) (a : Z.Denot) (x : R.Denot)
        → Step K 𝓛 (‵ (Held.own_val (record { at = block_ptr b o; alloc = a; full = true }) (both (vptr b o) h ∷ [])) ∷ Γ) G (‵ (box_owns (g.dealloc_token a) R (block_ptr b o) x) ∷ ‵ (Z.own_val a (h ∷ [])) ∷ Γ) G
    held_in t b o h a x = step (λ s. fpack t R.Denot (λ y. box_owns (g.dealloc_token a) R (block_ptr b o) y) x $ made t (block_ptr b o) h a true $ s)

-- the row of the handle of the heap
abbrev heap_row : RattleType
heap_row = heap.the_row

-- the handle of the heap as an allocator
abbrev heap_al : Al
heap_al = record { row = heap_row; laws = heap_laws.the_row_laws; g = ghosts; d = impl [] tnil dnil; drops = impl [] tnil dnil }

-- the same of a `Hidden`
module _ {M : Type 1} {𝓤 : Ura M} {𝓛 : Logic 𝓤} {K : Type 0} {Γ : List (Item 𝓤)} {G : Goal 𝓤 𝓛.H} where
  -- a `Hidden` is what lies at its pointer, and the handle
  pub hidden_taken : K → (d : Hidden.Denot) (vs : List Val)
      → ((h : Val) → vs ≡ both (ptr_val d.at) h ∷ [] → Good (layout heap_row) h → Seq K 𝓛 (‵ (hidden d.alloc d.at d.full) ∷ ‵ (heap_row.own_val d.alloc (h ∷ [])) ∷ Γ) G)
      → Seq K 𝓛 (‵ (Hidden.own_val d vs) ∷ Γ) G
  hidden_taken t d vs k =
      fsplit t $ fpick t (λ vss. fsplit t $ feq_l t (λ ev. fsplit t $ feq_l t (λ ep. fsplit t $ handle_tells heap_al t d.alloc vss.1.0 (λ h ea fits. move t (1 ∷ []) $ drop t $ move t (1 ∷ []) $ k h
      (subst (λ (ws : List Val). vs ≡ vstruct (of_list (ptr_val d.at ∷ (ws ++ []))) ∷ []) ea (subst (λ (ps : List Val). vs ≡ vstruct (of_list (ps ++ (vss.1.0 ++ []))) ∷ []) ep ev)) fits))))

  -- what lies at a pointer, and the handle, are a `Hidden`
  pub hidden_made : K → (p : Ptr) (h : Val) (a : heap_row.Denot) (f : Bool)
      → Step K 𝓛 (‵ (Hidden.own_val (record { at = p; alloc = a; full = f }) (both (ptr_val p) h ∷ [])) ∷ Γ) G (‵ (hidden a p f) ∷ ‵ (heap_row.own_val a (h ∷ [])) ∷ Γ) G
  hidden_made t p h a f = step (λ s. let v : Val = both (ptr_val p) h in
      nothing t $ move t (2 ∷ 0 ∷ []) $ fjoin t $ feq_i t (List Val) (ptr_val p ∷ []) (ptr_val p ∷ []) refl $ fjoin t $ feq_i t (List Val) (v ∷ []) (v ∷ []) refl $ fjoin t $
      fpack t (Valss (RawPtr ∷ heap_row ∷ [])) (within (shape hider.the_type) (p, (((tt, tt), tt), tt)) (v ∷ [])) (ptr_val p ∷ [], (h ∷ [], tt)) $ fjoin t $ s)
