-- What a declared struct owns where one of its fields is a shared slice and the others are plain: what the slice owns. It is for the laws `opens` and `shuts` of a `Holder` (`Holders.antt`).
--     opened           the struct gives what its k-th field owns, which is what a `&[T]` owns
--     shut             that makes what the struct owns, where the other fields own only facts (`Pure`), which hold (`shadow`). At a struct that is written out both compute
-- The laws assume `Logic`.
use Prim.Native.Nat.{ℕ}
use mathlib.Core.Path.{◌≡◌, refl, sym}
use mathlib.Core.List.{List, [], ◌∷◌}
use seplogic.Ra.Ura.{Ura}
use mir.Syntax.{Lifetime, erased}
use mir.Val.{Val, vstruct}
use base.Logic.{ent}
use base.Fml.{Lft, Fml}
use types.Logic.{Logic, sem}
use types.Kit.{‵, ◌⊛◌, given, ◌$◌, !, qed, move, drop, use1, use2, rewrite, split, learn, fsplit, fjoin, feq_i, done}
use denote.RattleType.{RattleType}
use denote.Ref.{Bor}
use denote.Slice as N
use denote.Shadow.{Pure, shadow, pure_i}
use denote.Struct.At.{get_at, put_at, spelled}
use denote.Struct.Declared.{Declared, shape}
use denote.Struct.Laws.{Lawss}
use denote.Struct.Rest.{all_own, field_own, rest, own_open, own_shut, own_out, own_in}
use denote.Struct.Struct.{Struct}
use denote.Struct.Values.{Values, intos}
use borrow.Table.Owned.{ShrSlice}
use borrow.Rule.Slice.Shared.{slice_v}

module _ (S : Declared) (L : Lawss S.parts) (k : ℕ) (v : Values S.parts) (ℓ : Lifetime) (κ : Lft) (R : RattleType) (x : Bor (List R.Denot)) (is : field_own S.parts L k (get_at S.parts k v) ≡ (N.ShrSlice ℓ κ R).own_val x (slice_v x ∷ []))
    {M : Type 1} {𝓤 : Ura M} (𝓛 : Logic 𝓤) where
  pub opened : (w : Val) → ent 𝓤 (sem 𝓛 ((Struct (shape S)).own_val (intos S.parts v) (w ∷ []))) (sem 𝓛 ((ShrSlice erased κ R).own_val x))
  opened w = qed 𝓛 (‵ ((Struct (shape S)).own_val (intos S.parts v) (w ∷ [])) ∷ []) {P = sem 𝓛 ((ShrSlice erased κ R).own_val x)} (
      use1 𝓛 (given (w ∷ [] ≡ vstruct (spelled S.parts L v) ∷ []) (‵ (all_own S.parts L v))) (own_open 𝓛 S L v w) $ learn ! (λ _.
      use1 𝓛 (‵ (field_own S.parts L k (get_at S.parts k v)) ⊛ ‵ (rest S.parts L k v)) (own_out 𝓛 S.parts L k v) $ split ! $ move ! (1 ∷ []) $ drop ! $
      rewrite ! 0 (λ (F : Fml). ‵ F) is refl $ fsplit ! $ fsplit ! $ drop ! $ fjoin ! $ done !))

  pub shut : Pure (rest S.parts L k v) → shadow (rest S.parts L k v)
      → ent 𝓤 (sem 𝓛 ((ShrSlice erased κ R).own_val x)) (sem 𝓛 ((Struct (shape S)).own_val (intos S.parts (put_at S.parts k (get_at S.parts k v) v)) (vstruct (spelled S.parts L (put_at S.parts k (get_at S.parts k v) v)) ∷ [])))
  shut pure holds = let v' = put_at S.parts k (get_at S.parts k v) v in
      qed 𝓛 (‵ ((ShrSlice erased κ R).own_val x) ∷ []) {P = sem 𝓛 ((Struct (shape S)).own_val (intos S.parts v') (vstruct (spelled S.parts L v') ∷ []))} (
      fsplit ! $ feq_i ! (List Val) (slice_v x ∷ []) (slice_v x ∷ []) refl $ fjoin ! $ fjoin ! $ rewrite ! 0 (λ (F : Fml). ‵ F) (sym is) refl $
      pure_i ! (rest S.parts L k v) pure holds $ move ! (1 ∷ 0 ∷ []) $ use2 𝓛 (‵ (all_own S.parts L v')) (own_in 𝓛 S.parts L k (get_at S.parts k v) v) $
      use1 𝓛 (‵ ((Struct (shape S)).own_val (intos S.parts v') (vstruct (spelled S.parts L v') ∷ []))) (own_shut 𝓛 S L v') $ done !)
