-- A struct that holds a shared slice (`Holders.antt`) is taken apart and made, in a derivation by hand: the slice is copied out of a local, and stays in it.
--     takes            `d = copy r.k`, where the field is the slice: d holds it as a `&[T]`
--     makes            `d = aggregate xs`, where one of the operands is a local that holds the slice
-- Both name the local that gives the slice, by its place among the locals without d: its row spares what the slice owns. Both ask nothing.
-- A plain field is read as an operand (`reads-part`), by `set`.
-- The rules assume `Logic`.
use Prim.Native.Nat.{ℕ, zero}
use mathlib.Core.Path.{◌≡◌, refl, sym, subst}
use mathlib.Core.List.{List, [], ◌∷◌}
use seplogic.Ra.Ura.{Ura}
use base.Fraction.{full_share}
use lib.Dec.{T}
use mir.Syntax.{Ty, Lifetime, Rv as RValue, place, assign, rv_opd, aggregate, erased}
use mir.Val.{Val, vstruct, of_list, has_ty, WT}
use base.Logic.{SProp, ent, sep, guard, id⊢}
use base.Fml.{fat, froom}
use prog.Wp.{Env, Tables, spot_of}
use types.Logic.{Logic, sem}
use types.Kit.{Go, Item, ◌$◌, ◌∵◌, !, ‵, ◌⊛◌, raw, given, mean, qed, by, move, use1, use2, rewrite, split, learn, check, updating, now, done}
use types.Run.{Rv, assigns, from, stop, init, of_opd}
use types.Part.{agg}
use denote.RattleType.{RattleType}
use denote.Ref.{Bor}
use denote.Slice.{slice_ty}
use borrow.Table.Steps.{skip_step, as_seq}
use borrow.Table.Row.{Row, Rho, Cx, St, lft, get_row, get, out, drop}
use borrow.Table.Rows.{sslice}
use borrow.Table.Own.{own, row_i, take_r, give_r}
use borrow.Table.Owned.{ShrSlice}
use borrow.Table.Reads.{ToRoom}
use borrow.Table.Typed.{Mo, pass, Own, holds, holds_i, only, want_only, post, Stmt}
use borrow.Rule.Scalar.{Oper, op_o, val_o, HasO, After, put_at, operΔ, Oper-wt}
use borrow.Rule.Slice.Shared.{slice_v}
use borrow.Kind.ShrRef.{Spares}
use borrow.Struct.Make.{op_os, val_os, WTl, HasOs, wts_of, opers_wt, opersΔ}
use Rattle.walks.proofs.Rules.{Line}
use Rattle.walks.proofs.Holders.{Holder, spelled_at, val, held, spared}

abbrev pub n_lays : (Γ : Cx) (nd : ℕ) (r : Row) → (St (out nd Γ.locals) → r.Mod) → Mo Γ → Mo (After Γ nd r)
n_lays Γ nd r x u = put_at Γ nd r (x (drop nd Γ.locals u)) u

module _ {M : Type 1} {𝓤 : Ura M} (𝓛 : Logic 𝓤) (𝓣 : Tables 𝓤 𝓛.H) (E : Env 𝓤 𝓛.H) (Γ : Cx) (nd : ℕ) where
  -- the other locals, and what they own
  open 𝓛 use {H}

  abbrev Others : (ρ : Rho) → St (out nd Γ.locals) → SProp 𝓤
  Others ρ m = own 𝓛 E ρ (out nd Γ.locals) m

  -- d gets a machine value of the type τ, and with it what a slice owns, which another local spares: together they are what the row r owns
  t_lays : (R : RattleType) (α ns : ℕ) (rv : RValue) (r : Row) (τ : Ty) (g : r.Mod → Val) (look : r.Mod → Bor (List R.Denot)) (x : St (out nd Γ.locals) → r.Mod) (h : (get_row ns (out nd Γ.locals)).1.Mod → Bor (List R.Denot))
      → ((ρ : Rho) (y : r.Mod) (b : ℕ) → ent 𝓤 (sep 𝓤 (H.at full_share τ b zero (g y)) (sem 𝓛 ((ShrSlice erased (lft ρ α) R).own_val (look y)))) (mean 𝓛 (row_i 𝓛 ρ r y b)))
      → ToRoom 𝓛 (get_row nd Γ.locals).1 τ → (spot_of 𝓤 H E (get_row nd Γ.locals).0).0 ≡ τ
      → ((m : St (out nd Γ.locals)) → T (has_ty τ (g (x m)))) → ((ρ : Rho) (m : St (out nd Γ.locals)) → ent 𝓤 (Others ρ m) (guard 𝓤 (WT (g (x m))) (Others ρ m)))
      → ((ρ : Rho) (m : St (out nd Γ.locals)) (i : Item 𝓤) (Δ : List (Item 𝓤)) → Rv Go 𝓛 (raw (Others ρ m) ∷ i ∷ Δ) E rv (g (x m)))
      → Spares 𝓛 (get_row ns (out nd Γ.locals)).1 (λ ρ y. (ShrSlice erased (lft ρ α) R).own_val (h y)) → ((m : St (out nd Γ.locals)) → h (get ns (out nd Γ.locals) m) ≡ look (x m))
      → Stmt 𝓛 𝓣 E Γ (assign (place (get_row nd Γ.locals).0 []) rv) (After Γ nd r) (pass Γ (After Γ nd r) (n_lays Γ nd r x))
  t_lays R α ns rv r τ g look x h mk tr ed ty wts ev sp same = record {
    go = λ Ψ ρ u p. let m = drop nd Γ.locals u in let b = (spot_of 𝓤 H E (get_row nd Γ.locals).0).1 in
        qed 𝓛 (Own 𝓛 E Γ ρ u) ∵ take_r ! E ρ nd Γ.locals u $ use1 𝓛 (‵ (froom τ b zero)) (tr ρ (get nd Γ.locals u) b) $ move ! (1 ∷ []) $
        use1 𝓛 (given (WT (g (x m))) (raw (Others ρ m))) (wts ρ m) $ learn ! (λ wt.
        use1 𝓛 (‵ ((ShrSlice erased (lft ρ α) R).own_val (h (get ns (out nd Γ.locals) m))) ⊛ raw (Others ρ m)) (spared 𝓛 E ρ (out nd Γ.locals) m ns (λ ρ' y. (ShrSlice erased (lft ρ' α) R).own_val (h y)) sp) $ split ! $
        rewrite ! 0 (λ (y : Bor (List R.Denot)). ‵ ((ShrSlice erased (lft ρ α) R).own_val y)) (same m) refl $ move ! (1 ∷ 2 ∷ []) $
        -- [the other locals; d's room; what the slice owns; the slots]
        as_seq ! 𝓣 E (assign (place (get_row nd Γ.locals).0 []) rv) (post 𝓛 E (only (After Γ nd r)) (want_only (After Γ nd r) Ψ)) (𝓛.laws.⇛_trans (holds 𝓛 E (After Γ nd r) Ψ)) $
        rewrite ! 1 (λ (σ : Ty). ‵ (froom σ b zero)) (sym ed) refl $
        assigns ! (ev ρ m _ _) (from ! (stop !)) (init ! 1 refl (subst (λ (σ : Ty). T (has_ty σ (g (x m))) × WT (g (x m))) (sym ed) (ty m, wt))) $
        rewrite ! 1 (λ (σ : Ty). ‵ (fat full_share σ b zero (g (x m)))) ed refl $ skip_step ! $ updating ! $ move ! (1 ∷ 2 ∷ []) $
        use2 𝓛 (row_i 𝓛 ρ r (x m) b) (mk ρ (x m) b) $ give_r ! E ρ nd ((get_row nd Γ.locals).0, r) (x m) (out nd Γ.locals) m $
        now ! $ by ! (holds_i 𝓛 E (After Γ nd r) Ψ ρ (n_lays Γ nd r x u) p));
  }

module _ (S : Holder) {M : Type 1} {𝓤 : Ura M} {𝓛 : Logic 𝓤} {𝓣 : Tables 𝓤 𝓛.H} {E : Env 𝓤 𝓛.H} {Γ : Cx} (nd ns α : ℕ) where
  -- the operand is the field, and d's pointer has the MIR type τ
  open 𝓛 use {H}

  pub takes : (τ : Ty) (x : Oper (out nd Γ.locals)) (h : (get_row ns (out nd Γ.locals)).1.Mod → S.D) → Spares 𝓛 (get_row ns (out nd Γ.locals)).1 (λ ρ y. (ShrSlice erased (lft ρ α) S.item).own_val (S.slice (h y))) → HasO 𝓛 E (out nd Γ.locals) x
      → ToRoom 𝓛 (get_row nd Γ.locals).1 (slice_ty τ) → (spot_of 𝓤 H E (get_row nd Γ.locals).0).0 ≡ slice_ty τ → ((y : S.D) → T (has_ty (slice_ty τ) (slice_v (S.slice y)))) → ((m : St (out nd Γ.locals)) → val_o (out nd Γ.locals) x m ≡ slice_v (S.slice (h (get ns (out nd Γ.locals) m))))
      → Line 𝓛 𝓣 E Γ (assign (place (get_row nd Γ.locals).0 []) (rv_opd (op_o (out nd Γ.locals) x))) (After Γ nd (sslice S.item τ α)) (pass Γ (After Γ nd (sslice S.item τ α)) (n_lays Γ nd (sslice S.item τ α) (λ m. S.slice (h (get ns (out nd Γ.locals) m)))))
  takes τ x h sp hx tr ed ty e = record {
    stmt = t_lays 𝓛 𝓣 E Γ nd S.item α ns (rv_opd (op_o (out nd Γ.locals) x)) (sslice S.item τ α) (slice_ty τ) slice_v (λ y. y) (λ m. S.slice (h (get ns (out nd Γ.locals) m))) (λ y. S.slice (h y)) (λ ρ y b. id⊢ 𝓤 _) tr ed (λ m. ty (h (get ns (out nd Γ.locals) m)))
        (λ ρ m. subst (λ (v : Val). ent 𝓤 (Others 𝓛 𝓣 E Γ nd ρ m) (guard 𝓤 (WT v) (Others 𝓛 𝓣 E Γ nd ρ m))) (e m) (Oper-wt 𝓛 E ρ (out nd Γ.locals) x m hx))
        (λ ρ m i Δ. subst (λ (v : Val). Rv Go 𝓛 (raw (Others 𝓛 𝓣 E Γ nd ρ m) ∷ i ∷ Δ) E (rv_opd (op_o (out nd Γ.locals) x)) v) (e m) (of_opd ! (operΔ 𝓛 E ρ (out nd Γ.locals) m i Δ x hx))) sp (λ m. refl);
  }

  -- the new struct, from the other locals; ℓ is the lifetime as d's MIR type has it
  pub makes : (ℓ : Lifetime) (xs : List (Oper (out nd Γ.locals))) (h : (get_row ns (out nd Γ.locals)).1.Mod → Bor (List S.item.Denot)) (x : St (out nd Γ.locals) → S.D) → Spares 𝓛 (get_row ns (out nd Γ.locals)).1 (λ ρ y. (ShrSlice erased (lft ρ α) S.item).own_val (h y)) → HasOs 𝓛 E (out nd Γ.locals) xs
      → ToRoom 𝓛 (get_row nd Γ.locals).1 (spelled_at S ℓ) → (spot_of 𝓤 H E (get_row nd Γ.locals).0).0 ≡ spelled_at S ℓ → ((m : St (out nd Γ.locals)) → h (get ns (out nd Γ.locals) m) ≡ S.slice (x m)) → ((m : St (out nd Γ.locals)) → vstruct (of_list (val_os (out nd Γ.locals) xs m)) ≡ val S (x m))
      → Line 𝓛 𝓣 E Γ (assign (place (get_row nd Γ.locals).0 []) (aggregate (op_os (out nd Γ.locals) xs))) (After Γ nd (held S ℓ α)) (pass Γ (After Γ nd (held S ℓ α)) (n_lays Γ nd (held S ℓ α) x))
  makes ℓ xs h x sp hs tr ed same e = record {
    stmt = t_lays 𝓛 𝓣 E Γ nd S.item α ns (aggregate (op_os (out nd Γ.locals) xs)) (held S ℓ α) (spelled_at S ℓ) (val S) S.slice x h (λ ρ y b. id⊢ 𝓤 _) tr ed (λ m. S.typed ℓ (x m))
        (λ ρ m. qed 𝓛 (raw (Others 𝓛 𝓣 E Γ nd ρ m) ∷ []) {P = guard 𝓤 (WT (val S (x m))) (Others 𝓛 𝓣 E Γ nd ρ m)} (
        use1 𝓛 (given (WTl (val_os (out nd Γ.locals) xs m)) (raw (Others 𝓛 𝓣 E Γ nd ρ m))) (opers_wt 𝓛 E ρ (out nd Γ.locals) xs m hs) $ learn ! (λ wt. check ! (subst WT (e m) (wts_of (val_os (out nd Γ.locals) xs m) wt)) $ done !)))
        (λ ρ m i Δ. subst (λ (v : Val). Rv Go 𝓛 (raw (Others 𝓛 𝓣 E Γ nd ρ m) ∷ i ∷ Δ) E (aggregate (op_os (out nd Γ.locals) xs)) v) (e m) (agg ! (opersΔ 𝓛 E ρ (out nd Γ.locals) m i Δ xs hs))) sp same;
  }
