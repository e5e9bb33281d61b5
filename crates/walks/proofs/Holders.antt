-- Structs that hold a shared slice beside plain data, by value, in a derivation by hand. `Structs.antt` has those that hold no reference.
-- What such a struct owns is what its slice owns, and facts. So a local that holds one is, to the rules, a local that holds a `&[T]`, but for the machine value in it.
--     Holder           such a struct at any name and choice of its lifetime, with its laws.        spelled_at, val, type     its MIR type, its machine value and its type
--     held S ℓ α       the row of a local that holds one: ℓ is the lifetime as the local's MIR type has it, and α is its slot
--     spares_held, reads_held, reads-part, room-held      such a local gives its slice and keeps it, and is read, whole or a field of it, or can be written
--     holder, handed   the kinds of a parameter `S<'j>` and of a result.        HeldAt       how a caller names the argument
--     spared           what a row spares, the table gives, and stays as it was
-- The rules assume `Logic`.
use Prim.Native.Nat.{ℕ, zero, ◌+◌}
use mathlib.Core.Path.{◌≡◌, refl, sym, ap, subst}
use mathlib.Core.List.{List, [], ◌∷◌}
use mathlib.Core.Option.{some}
use seplogic.Ra.Ura.{Ura}
use base.Fraction.{full_share}
use lib.Dec.{T}
use mir.Syntax.{Sym, Ty, Tys, Lifetime, Written, ty_struct, erased, named, copy, place}
use mir.Val.{Val, Vals, vstruct, has_ty, WT}
use mir.Fields.{get_v}
use base.Logic.{ent, sep, emp, ex_i, guard, guard_i, wand, wand_i, apply∗, id⊢, via, fst∗, snd∗, comm∗, mono_r}
use base.Stored.{Coded}
use base.Fml.{Lft, Fml, Share, ftrue, fat}
use contract.Lifetimes.{Lfts, Within, lft_at}
use contract.Monad.{top, fact_i, fact_use}
use prog.Memory.{field_at}
use prog.Wp.{Env, spot_of}
use types.Logic.{Logic, sem}
use types.Kit.{mean, qed, raw, use0, use1, use2, given, ‵, ◌⊛◌, ◌$◌, !, split, join, move, learn, check, rewrite, done}
use types.Run.{forget, well_typed}
use denote.RattleType.{RattleType, RowLaws}
use denote.Ref.{Bor, NamedLft}
use denote.Exit.{Kept, Exit, yes, Last, left}
use denote.Shadow.{shadow, shows_shadow}
use denote.Signature.{plain, named_lft}
use denote.Steps.{only}
use denote.Triple.Walked.{Goes-none, stay_none}
use borrow.Table.Row.{Row, Rho, Entry, St, lft, rd, get_row, get, Apart, rd_wr_other}
use borrow.Table.Own.{own, row_i, row_j}
use borrow.Table.Owned.{ShrSlice, shr_slice_copy}
use borrow.Table.Reads.{ReadsAs, ReadsAt, ToRoom, row_acc, field_Shows}
use borrow.Rule.Scalar.{o_at, Oper-go, Oper-wt}
use borrow.Kind.ShrRef.{Spares}
use borrow.Fn.Kind.{Kind, Laws, ParamKind, ResKind, ResLaws, ResultKind, told, told_res}
use borrow.Fn.Leases.{pin_at, κsOf, lft_κs}

pub record Holder : Type 3 where
  pub D : Type 0
  pub item : RattleType  -- the type of the slice's elements
  pub item_laws : RowLaws item
  pub slice : D → Bor (List item.Denot)
  pub name : Sym
  pub tys : Lifetime → Tys
  pub vals : D → Vals
  -- the rest of its type, at a lifetime: `lives` is the lifetime that a value names, and `shr_at` what a `&` to one holds
  pub written : NamedLft → Written
  pub reaches : NamedLft → List (Written × List Ty)
  pub lives : NamedLft → Lft
  pub own : NamedLft → D → List Val → Fml
  pub exit : NamedLft → Kept → Exit D
  pub coded : NamedLft → Coded D
  pub shr_at : NamedLft → D → ℕ → ℕ → Lft → Fml
  -- it is at exit as it was passed, and nothing is said of it there
  pub last : (a : NamedLft) (x : D) → Last (exit a yes) x
  pub silent : (a : NamedLft) (x : D) (f : Last (exit a yes) x) → left (exit a yes) x f ≡ ftrue
  -- its machine value: the one that it has, and its MIR type
  pub tells : (a : NamedLft) (x : D) (vs : List Val) → shadow (own a x vs) → vs ≡ vstruct (vals x) ∷ []
  pub typed : (ℓ : Lifetime) (x : D) → T (has_ty (ty_struct name (tys ℓ)) (vstruct (vals x)))
  pub fits : (M : Type 1) (𝓤 : Ura M) (𝓛 : Logic 𝓤) → (a : NamedLft) (x : D) → shadow (own a x (vstruct (vals x) ∷ [])) → WT (vstruct (vals x))
  -- what it owns is what its slice owns
  pub opens : (M : Type 1) (𝓤 : Ura M) (𝓛 : Logic 𝓤) → (a : NamedLft) (x : D) → ent 𝓤 (sem 𝓛 (own a x (vstruct (vals x) ∷ []))) (sem 𝓛 ((ShrSlice erased a.lft item).own_val (slice x)))
  pub shuts : (M : Type 1) (𝓤 : Ura M) (𝓛 : Logic 𝓤) → (a : NamedLft) (x : D) → WT (vstruct (vals x)) → ent 𝓤 (sem 𝓛 ((ShrSlice erased a.lft item).own_val (slice x))) (sem 𝓛 (own a x (vstruct (vals x) ∷ [])))

-- how a caller names the argument in the table L
pub record HeldAt (D : Type 0) (L : List Entry) : Type 0 where
  pub pos : ℕ
  pub ty : Ty
  pub at : (get_row pos L).1.Mod → D

module _ {M : Type 1} {𝓤 : Ura M} (𝓛 : Logic 𝓤) (E : Env 𝓤 𝓛.H) (ρ : Rho) (L : List Entry) (u : St L) where
  open 𝓛 use {H}

  pub spared : (n : ℕ) (P : Rho → (get_row n L).1.Mod → Fml) → Spares 𝓛 (get_row n L).1 P → ent 𝓤 (own 𝓛 E ρ L u) (sep 𝓤 (sem 𝓛 (P ρ (get n L u))) (own 𝓛 E ρ L u))
  spared n P sp =
      qed 𝓛 (raw (own 𝓛 E ρ L u) ∷ []) {P = sep 𝓤 (sem 𝓛 (P ρ (get n L u))) (own 𝓛 E ρ L u)} (
      use1 𝓛 (row_j 𝓛 E ρ (get_row n L) (get n L u) ⊛ raw (wand 𝓤 (mean 𝓛 (row_j 𝓛 E ρ (get_row n L) (get n L u))) (own 𝓛 E ρ L u))) (row_acc 𝓛 E ρ n L u) $ split ! $
      use1 𝓛 (‵ (P ρ (get n L u)) ⊛ row_j 𝓛 E ρ (get_row n L) (get n L u)) (sp ρ (get n L u) (spot_of 𝓤 H E (get_row n L).0).1) $ split ! $
      move ! (1 ∷ 2 ∷ []) $ use2 𝓛 (raw (own 𝓛 E ρ L u)) (apply∗ 𝓤 (mean 𝓛 (row_j 𝓛 E ρ (get_row n L) (get n L u))) (own 𝓛 E ρ L u)) $ move ! (1 ∷ 0 ∷ []) $ done !)

module _ (S : Holder) where
  abbrev pub spelled_at : Lifetime → Ty
  spelled_at ℓ = ty_struct S.name (S.tys ℓ)

  abbrev pub val : S.D → Val
  val x = vstruct (S.vals x)

  abbrev pub type : NamedLft → RattleType
  type a = record { Denot = S.D; mir = spelled_at a.mir ∷ []; written = S.written a; reaches = S.reaches a; lives = S.lives a; own_val = S.own a; exit = S.exit a; coded = S.coded a; shr_at = S.shr_at a }

  -- what its slice owns
  abbrev Slice : Lft → S.D → Fml
  Slice κ x = (ShrSlice erased κ S.item).own_val (S.slice x)

  abbrev pub held : Lifetime → ℕ → Row
  held ℓ β = record {
    Mod = S.D;
    owns = λ M 𝓤 𝓛 ρ x b. ‵ (fat full_share (spelled_at ℓ) b zero (val x)) ⊛ ‵ (Slice (lft ρ β) x);
    fresh = λ α. Apart α β;
    knows = λ x. Unit {0};
    stays = λ M 𝓤 𝓛 α a ρ f x b. subst (λ (k : Lft). ent 𝓤 (mean 𝓛 (‵ (fat full_share (spelled_at ℓ) b zero (val x)) ⊛ ‵ (Slice (lft ρ β) x))) (mean 𝓛 (‵ (fat full_share (spelled_at ℓ) b zero (val x)) ⊛ ‵ (Slice k x)))) (sym (rd_wr_other α β f a ρ)) (id⊢ 𝓤 _);
    tells = λ M 𝓤 𝓛 ρ x b. guard_i 𝓤 (Unit {0}) _ tt;
  }

  module _ {M : Type 1} {𝓤 : Ura M} (𝓛 : Logic 𝓤) (ℓ : Lifetime) (α : ℕ) where
    open 𝓛 use {H}

    pub spares_held : Spares 𝓛 (held ℓ α) (λ ρ x. Slice (lft ρ α) x)
    spares_held ρ x b = qed 𝓛 (row_i 𝓛 ρ (held ℓ α) x b ∷ []) {P = sep 𝓤 (sem 𝓛 (Slice (lft ρ α) x)) (mean 𝓛 (row_i 𝓛 ρ (held ℓ α) x b))} (
        split ! $ move ! (1 ∷ []) $ use1 𝓛 (‵ (Slice (lft ρ α) x) ⊛ ‵ (Slice (lft ρ α) x)) ((shr_slice_copy 𝓛 erased (lft ρ α) S.item S.item_laws).twice (S.slice x)) $ split ! $ move ! (0 ∷ 2 ∷ 1 ∷ []) $ done !)

    pub reads_held : ReadsAs 𝓛 (held ℓ α) (spelled_at ℓ) val
    reads_held ρ x b =
        via 𝓤 (sep 𝓤 (H.at full_share (spelled_at ℓ) b zero (val x)) (wand 𝓤 (H.at full_share (spelled_at ℓ) b zero (val x)) (mean 𝓛 (row_i 𝓛 ρ (held ℓ α) x b))))
        (mono_r 𝓤 (H.at full_share (spelled_at ℓ) b zero (val x)) (wand_i 𝓤 (sem 𝓛 (Slice (lft ρ α) x)) (H.at full_share (spelled_at ℓ) b zero (val x)) (mean 𝓛 (row_i 𝓛 ρ (held ℓ α) x b)) (comm∗ 𝓤 (sem 𝓛 (Slice (lft ρ α) x)) (H.at full_share (spelled_at ℓ) b zero (val x)))))
        (ex_i 𝓤 (λ (s : Share). sep 𝓤 (H.at s (spelled_at ℓ) b zero (val x)) (wand 𝓤 (H.at s (spelled_at ℓ) b zero (val x)) (mean 𝓛 (row_i 𝓛 ρ (held ℓ α) x b)))) full_share)

    pub reads-part : (k : ℕ) (τ : Ty) (o : ℕ) → field_at zero (S.tys ℓ) k ≡ some (τ, o) → ReadsAt 𝓛 (held ℓ α) τ (zero + o) (λ x. get_v (S.vals x) k)
    reads-part k τ o e ρ x b = field_Shows 𝓛 (mean 𝓛 (row_i 𝓛 ρ (held ℓ α) x b)) S.name (S.tys ℓ) k τ o e b (S.vals x) (reads_held ρ x b)

    pub room-held : ToRoom 𝓛 (held ℓ α) (spelled_at ℓ)
    room-held ρ x b = via 𝓤 (H.at full_share (spelled_at ℓ) b zero (val x)) (fst∗ 𝓤 (H.at full_share (spelled_at ℓ) b zero (val x)) (sem 𝓛 (Slice (lft ρ α) x))) (𝓛.laws.at_room (spelled_at ℓ) b zero (val x))

  module _ (n j : ℕ) (ok : Within n j) where
    abbrev a : Lfts n → NamedLft
    a κs = named_lft n j ok κs

    abbrev kind : Kind n
    kind = record {
      slot = plain (λ κs. type (a κs));
      keeps = yes;
      stay = stay_none (λ κs. type (a κs)) yes;
      ty = spelled_at (named j);
      row_in = λ κs. held (named j) j;
      row_ret = λ κs. held (named j) j;
      val = λ κs x. val x;
      Good = λ κs x. WT (val x);
      part = λ κs x. x;
      last_val = λ κs x c. S.last (a κs) x;
      Fix = λ κs x c. ◌≡◌ {A = S.D} c x;
      ownᵒ = λ κs x. S.own (a κs) x (val x ∷ []);
      leftᵒ = λ κs x f. ftrue;
      Arg = HeldAt S.D;
      op = λ L g. copy (place (get_row g.pos L).0 []);
      arg = λ κs L g u. g.at (get g.pos L u);
      outs = λ L g. L;
      out_u = λ L g u. u;
      back = λ L g base. base;
      upd = λ κs L g u f base acc. acc;
      Has = λ M 𝓤 𝓛 E βs σ L g X. Spares 𝓛 (get_row g.pos L).1 (λ ρ x. Slice (lft ρ (rd 0 j βs)) (g.at x)) × ReadsAs 𝓛 (get_row g.pos L).1 g.ty (λ x. val (g.at x)) × ((spot_of 𝓤 𝓛.H E (get_row g.pos L).0).0 ≡ g.ty) × X;
      mem = λ M 𝓤 H E L g u. emp 𝓤;
    }

    abbrev result : ResKind n
    result = record {
      slot = plain (λ κs. type (a κs));
      bounds = [];
      ty = spelled_at (named j);
      row = λ κs. held (named j) j;
      of_part = λ κs x. x;
      val = λ κs x. val x;
      Is = λ κs x vs. (vs ≡ val x ∷ []) × WT (val x);
      Ok = λ κs x. WT (val x);
      ownᵒ = λ κs x. S.own (a κs) x (val x ∷ []);
      ty_at = λ τ. spelled_at erased;
      Dest = λ βs τ. τ ≡ spelled_at erased;
      row_at = λ βs τ. held erased (rd 0 j βs);
      put = λ κs x βs τ. x;
    }

    module _ {M : Type 1} {𝓤 : Ura M} (𝓛 : Logic 𝓤) where
      -- what is owned is owned at the machine value that it has
      open 𝓛 use {H}

      owned : (κs : Lfts n) (x : S.D) (vs : List Val) → ent 𝓤 (sem 𝓛 (S.own (a κs) x vs)) (guard 𝓤 ((vs ≡ val x ∷ []) × WT (val x)) (sem 𝓛 (S.own (a κs) x (val x ∷ []))))
      owned κs x vs = fact_use 𝓤 (shadow (S.own (a κs) x vs)) (shows_shadow 𝓛 (S.own (a κs) x vs)) (λ is.
          let e = S.tells (a κs) x vs is in
          via 𝓤 (sem 𝓛 (S.own (a κs) x (val x ∷ []))) (subst (λ (us : List Val). ent 𝓤 (sem 𝓛 (S.own (a κs) x vs)) (sem 𝓛 (S.own (a κs) x us))) e (id⊢ 𝓤 (sem 𝓛 (S.own (a κs) x vs))))
          (guard_i 𝓤 ((vs ≡ val x ∷ []) × WT (val x)) (sem 𝓛 (S.own (a κs) x (val x ∷ []))) (e, S.fits M 𝓤 𝓛 (a κs) x (subst (λ (us : List Val). shadow (S.own (a κs) x us)) e is))))

      -- the row of a local in which one has landed, at the slot that stands for its lifetime, and what such a row gives
      lands : (κs : Lfts n) (ρ : Rho) (β : ℕ) → lft ρ β ≡ lft_at n j ok κs → (ℓ : Lifetime) (x : S.D) (b : ℕ) → ent 𝓤 (sep 𝓤 (H.at full_share (spelled_at ℓ) b zero (val x)) (sem 𝓛 (S.own (a κs) x (val x ∷ [])))) (mean 𝓛 (row_i 𝓛 ρ (held ℓ β) x b))
      lands κs ρ β e ℓ x b = mono_r 𝓤 (H.at full_share (spelled_at ℓ) b zero (val x)) (subst (λ (k : Lft). ent 𝓤 (sem 𝓛 (S.own (a κs) x (val x ∷ []))) (sem 𝓛 (Slice k x))) (sym e) (S.opens M 𝓤 𝓛 (a κs) x))

      gives : (κs : Lfts n) (ρ : Rho) (β : ℕ) → lft ρ β ≡ lft_at n j ok κs → (ℓ : Lifetime) (x : S.D) (b : ℕ) → ent 𝓤 (mean 𝓛 (row_i 𝓛 ρ (held ℓ β) x b)) (guard 𝓤 (WT (val x)) (sep 𝓤 (H.at full_share (spelled_at ℓ) b zero (val x)) (sem 𝓛 (S.own (a κs) x (val x ∷ [])))))
      gives κs ρ β e ℓ x b = qed 𝓛 (row_i 𝓛 ρ (held ℓ β) x b ∷ []) {P = guard 𝓤 (WT (val x)) (sep 𝓤 (H.at full_share (spelled_at ℓ) b zero (val x)) (sem 𝓛 (S.own (a κs) x (val x ∷ []))))} (
          split ! $ well_typed ! (λ wt. rewrite ! 1 (λ (k : Lft). ‵ (Slice k x)) e refl $ move ! (1 ∷ []) $
          use1 𝓛 (‵ (S.own (a κs) x (val x ∷ []))) (S.shuts M 𝓤 𝓛 (a κs) x wt.1) $ check ! wt.1 $ move ! (1 ∷ 0 ∷ []) $ done !))

      leaves : (κs : Lfts n) (ρ : Rho) → lft ρ j ≡ lft_at n j ok κs → (x : S.D) (b : ℕ) → ent 𝓤 (mean 𝓛 (row_i 𝓛 ρ (held (named j) j) x b)) (sep 𝓤 (H.room (spelled_at (named j)) b zero) (sem 𝓛 (S.own (a κs) x (val x ∷ []))))
      leaves κs ρ e x b = qed 𝓛 (row_i 𝓛 ρ (held (named j) j) x b ∷ []) {P = sep 𝓤 (H.room (spelled_at (named j)) b zero) (sem 𝓛 (S.own (a κs) x (val x ∷ [])))} (
          use1 𝓛 (given (WT (val x)) (‵ (fat full_share (spelled_at (named j)) b zero (val x)) ⊛ ‵ (S.own (a κs) x (val x ∷ [])))) (gives κs ρ j e (named j) x b) $ learn ! (λ wt. split ! $ forget ! 0 refl $ done !))

      gathers : (E : Env 𝓤 H) (ρ : Rho) (βs : List ℕ) (L : List Entry) (g : HeldAt S.D L) (u : St L) → Spares 𝓛 (get_row g.pos L).1 (λ ρ' x. Slice (lft ρ' (rd 0 j βs)) (g.at x))
          → ReadsAs 𝓛 (get_row g.pos L).1 g.ty (λ x. val (g.at x)) × ((spot_of 𝓤 H E (get_row g.pos L).0).0 ≡ g.ty)
          → ent 𝓤 (own 𝓛 E ρ L u) (guard 𝓤 (WT (val (g.at (get g.pos L u)))) (sep 𝓤 (sep 𝓤 (emp 𝓤) (sem 𝓛 (S.own (a (κsOf n ρ βs)) (g.at (get g.pos L u)) (val (g.at (get g.pos L u)) ∷ [])))) (own 𝓛 E ρ L u)))
      gathers E ρ βs L g u sp rd' = let x = g.at (get g.pos L u) in
          qed 𝓛 (raw (own 𝓛 E ρ L u) ∷ []) {P = guard 𝓤 (WT (val x)) (sep 𝓤 (sep 𝓤 (emp 𝓤) (sem 𝓛 (S.own (a (κsOf n ρ βs)) x (val x ∷ [])))) (own 𝓛 E ρ L u))} (
          use1 𝓛 (given (WT (val x)) (raw (own 𝓛 E ρ L u))) (Oper-wt 𝓛 E ρ L (o_at g.pos g.ty (λ y. val (g.at y))) u rd') $ learn ! (λ wt.
          use1 𝓛 (‵ (Slice (lft ρ (rd 0 j βs)) x) ⊛ raw (own 𝓛 E ρ L u)) (spared 𝓛 E ρ L u g.pos (λ ρ' y. Slice (lft ρ' (rd 0 j βs)) (g.at y)) sp) $ split ! $
          rewrite ! 0 (λ (k : Lft). ‵ (Slice k x)) (sym (lft_κs n j ok ρ βs)) refl $ use1 𝓛 (‵ (S.own (a (κsOf n ρ βs)) x (val x ∷ []))) (S.shuts M 𝓤 𝓛 (a (κsOf n ρ βs)) x wt) $
          check ! wt $ use0 𝓛 (raw (emp 𝓤)) (id⊢ 𝓤 (emp 𝓤)) $ join ! $ done !))

      pub laws : Laws 𝓛 n kind
      laws = record {
        own_in = owned;
        own_out = λ κs x. id⊢ 𝓤 (sem 𝓛 (S.own (a κs) x (val x ∷ [])));
        left_in = λ κs x f. top 𝓤 (sem 𝓛 (left (S.exit (a κs) yes) x f));
        goes = Goes-none 𝓛 n (λ κs. type (a κs)) yes (λ κs x f. S.silent (a κs) x f);
        fit_of = λ κs x f. fact_i 𝓤 (Unit {0}) (sem 𝓛 (left (S.exit (a κs) yes) x f)) tt;
        typed = λ κs x g. (S.typed (named j) x, g);
        enter = λ κs x g ρ pn b. lands κs ρ j (pin_at n j ok κs ρ pn) (named j) x b;
        exit = λ κs x g ρ pn c b e. subst (λ (y : S.D). ent 𝓤 (mean 𝓛 (row_i 𝓛 ρ (held (named j) j) c b)) (sep 𝓤 (H.room (spelled_at (named j)) b zero) (sem 𝓛 (S.own (a κs) y (val y ∷ []))))) e (leaves κs ρ (pin_at n j ok κs ρ pn) c b);
        fits = λ κs x c e. tt;
        has_rest = λ E βs σ L g X h. h.3;
        reads = λ E ρ βs σ L g u X h Y K k. Oper-go 𝓛 E ρ L (o_at g.pos g.ty (λ x. val (g.at x))) u Y (h.1, h.2) K k;
        gather = λ E ρ βs σ inc L g u X h. gathers E ρ βs L g u h.0 (h.1, h.2);
        give = λ E ρ βs σ L g u X h f ft base acc. snd∗ 𝓤 (sep 𝓤 (emp 𝓤) (emp 𝓤)) (own 𝓛 E ρ base acc);
      }

      pub res_laws : ResLaws 𝓛 n result
      res_laws = record {
        new = λ κs x vs i. subst (λ (us : List Val). ent 𝓤 (sem 𝓛 (S.own (a κs) x (val x ∷ []))) (sem 𝓛 (S.own (a κs) x us))) (sym i.0) (id⊢ 𝓤 (sem 𝓛 (S.own (a κs) x (val x ∷ []))));
        old = owned;
        ok = λ κs x vs i. i.1;
        out = λ κs ρ pn x b. qed 𝓛 (row_i 𝓛 ρ (held (named j) j) x b ∷ []) {P = guard 𝓤 ((val x ∷ [] ≡ val x ∷ []) × WT (val x)) (sep 𝓤 (H.at full_share (spelled_at (named j)) b zero (val x)) (sem 𝓛 (S.own (a κs) x (val x ∷ []))))} (
            use1 𝓛 (given (WT (val x)) (‵ (fat full_share (spelled_at (named j)) b zero (val x)) ⊛ ‵ (S.own (a κs) x (val x ∷ [])))) (gives κs ρ j (pin_at n j ok κs ρ pn) (named j) x b) $ learn ! (λ wt. check ! (refl, wt) $ done !));
        dest-eq = λ βs τ d. d;
        dest-bounds = λ ρ βs τ d. tt;
        typed = λ κs x v i βs τ d. subst (λ (y : Val). T (has_ty (spelled_at erased) y) × WT y) (sym (ap only i.0)) (S.typed erased x, i.1);
        lands = λ ρ βs x v i τ b. subst (λ (y : Val). ent 𝓤 (sep 𝓤 (H.at full_share (spelled_at erased) b zero y) (sem 𝓛 (S.own (a (κsOf n ρ βs)) x (val x ∷ [])))) (mean 𝓛 (row_i 𝓛 ρ (held erased (rd 0 j βs)) x b))) (sym (ap only i.0))
            (lands (κsOf n ρ βs) ρ (rd 0 j βs) (sym (lft_κs n j ok ρ βs)) erased x b);
      }

  abbrev pub holder : {n : ℕ} (j : ℕ) → Within n j → ParamKind n
  holder {n} j ok = record { is = kind n j ok; mir_is = λ κs. refl; laws = λ M 𝓤 𝓛. told (laws n j ok 𝓛) }

  abbrev pub handed : {n : ℕ} (j : ℕ) → Within n j → ResultKind n
  handed {n} j ok = record { is = result n j ok; mir_is = λ κs. refl; laws = λ M 𝓤 𝓛. told_res (res_laws n j ok 𝓛) }
