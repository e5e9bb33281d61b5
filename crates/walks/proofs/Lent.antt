-- The MIR types of what a function is lent, or lends on, in a derivation by hand; and what else a derivation over lent structs and bytes names.
--     bytes            the type of a lent buffer's elements
--     numbers          that of a lent array of 8-byte numbers' elements.        lent_numbers_at, lent_numbers_here      the pointers of `&'j mut [u64]`, and of a loan that the function makes
--     bytes_at, lent_bytes_at       the pointers of `&'j [u8]` and of `&'j mut [u8]`.        bytes_here, lent_bytes_here      those of a loan that the function makes
--     ref_at, lent_ref_at, ref_here, lent_ref_here     the same of a struct, `&'j S` and `&'j mut S`
use Prim.Native.Nat.{ℕ}
use mir.Syntax.{Ty, ty_ref, named, erased, imm, mut, ty_int, w8, w64}
use denote.Memory.{pointee}
use denote.RattleType.{RattleType}
use borrow.Table.Referent.{rt_f}
use Rattle.walks.proofs.Structs.{Struct, row}
pub use borrow.Kind.ShrRef.{Spares-sref}
pub use borrow.Rule.Reshare.{mref_owed_s}
pub use borrow.Rule.Slice.Mut.{reads_mslice_len}
pub use borrow.Table.Reads.{reads_mref, reads_sref}
pub use borrow.Table.Referent.{f_int}
pub use borrow.Table.Rows.{mref, mleft, mref_owed, sref}

abbrev pub bytes : RattleType
bytes = rt_f (f_int w8)

abbrev pub bytes_at : ℕ → Ty
bytes_at j = ty_ref (named j) imm (ty_int w8)

abbrev pub lent_bytes_at : ℕ → Ty
lent_bytes_at j = ty_ref (named j) mut (ty_int w8)

abbrev pub bytes_here : Ty
bytes_here = ty_ref erased imm (ty_int w8)

abbrev pub lent_bytes_here : Ty
lent_bytes_here = ty_ref erased mut (ty_int w8)

abbrev pub numbers : RattleType
numbers = rt_f (f_int w64)

abbrev pub lent_numbers_at : ℕ → Ty
lent_numbers_at j = ty_ref (named j) mut (ty_int w64)

abbrev pub lent_numbers_here : Ty
lent_numbers_here = ty_ref erased mut (ty_int w64)

module _ (S : Struct) where
  abbrev pub ref_at : ℕ → Ty
  ref_at j = ty_ref (named j) imm (pointee (row S).written)

  abbrev pub lent_ref_at : ℕ → Ty
  lent_ref_at j = ty_ref (named j) mut (pointee (row S).written)

  abbrev pub ref_here : Ty
  ref_here = ty_ref erased imm (pointee (row S).written)

  abbrev pub lent_ref_here : Ty
  lent_ref_here = ty_ref erased mut (pointee (row S).written)
