-- The search by halving ends at the place of the address.
use Prim.Native.Nat.{ℕ, zero, suc, ◌+◌, ◌-◌, ◌*◌, ◌/◌, ◌^◌, ◌≤◌, ◌<◌}
use native.Mathlib.Nat.{two-pow-succ}
use native.Mathlib.Omega.{arith}
use mathlib.Core.Path.{◌≡◌, refl, sym, ◌∙◌}
use mathlib.Core.Bool.{Bool, true, false}
use mathlib.Core.List.{List}
use lib.Dec.{ltb}
use lib.ListN.{length, get_or, get_or-eq_default}
use borrow.Author.Tests.{ltb-true, ltb-false, lt-ltb, le-ltb}
use Rattle.answer.specs.Tests.{pick}
use Rattle.answer.proofs.Tests.{pick_true, pick_false}
use Rattle.address.specs.declared.DeviceAddress.{DeviceAddress}
use Rattle.iommu.specs.declared.Mapping.{Mapping}
use Rattle.iommu.specs.declared.Search.{Search}
use Rattle.iommu.specs.Table.{blank, holds, sound_table, first_past, Placed}
use Rattle.iommu.specs.Halving.{search, search_of, middle_of, probed, searched, halved, probes_for, HalvingIsShort}
use Rattle.iommu.proofs.Order.{past_bound, past-below, past-above, past-holder, blank-holds, holds-passed}

pub middle_in : (lo hi : ℕ) → lo < hi → (lo ≤ (lo + hi) / 2) × ((lo + hi) / 2 < hi)
middle_in lo hi h = (omega arith, omega arith)

-- ---- one probe

-- a search with fewer places
pub record Narrower (s r : Search) : Type 0 where
  pub shorter : r.hi - r.lo < s.hi - s.lo
  pub few : r.hi ≤ s.hi
  pub one_more : r.probes ≡ s.probes + 1

pub narrows : (m : Mapping) (d : DeviceAddress) (s : Search) → s.lo < s.hi → Narrower s (probed m d s)
unfolding probed middle_of
narrows m d s h = go (holds m d) (ltb d.0 m.device.0)
  where
    b : (s.lo ≤ (s.lo + s.hi) / 2) × ((s.lo + s.hi) / 2 < s.hi)
    b = middle_in s.lo s.hi h

    go : (x y : Bool) → Narrower s (pick x (search ((s.lo + s.hi) / 2) ((s.lo + s.hi) / 2) (s.probes + 1) true) (pick y (search s.lo ((s.lo + s.hi) / 2) (s.probes + 1) false) (search ((s.lo + s.hi) / 2 + 1) s.hi (s.probes + 1) false)))
    go true y = let c = b.1 in unfold pick in record { shorter = omega arith; few = omega arith; one_more = refl }
    go false true = let c = b.1 in unfold pick in record { shorter = omega arith; few = omega arith; one_more = refl }
    go false false = let c = b.0 in unfold pick in record { shorter = omega arith; few = omega arith; one_more = refl }

-- the place of the address is among those left, and the mapping at the upper end says whether it was found
pub record Around (ms : List Mapping) (d : DeviceAddress) (s : Search) : Type 0 where
  pub low : s.lo ≤ first_past d ms
  pub high : first_past d ms ≤ s.hi
  pub holder : s.held ≡ holds (get_or ms s.hi blank) d
  pub unmet : s.lo < s.hi → s.held ≡ false

pub around_start : (ms : List Mapping) (d : DeviceAddress) → Around ms d (search_of (length ms))
around_start ms d =
    record { low = omega arith; high = past_bound d ms; holder = sym (rw (get_or-eq_default ms blank {n = length ms} (omega arith)) (blank-holds d)); unmet = λ h. refl }

-- a probe keeps it so: `found` and `below` are its two tests of the mapping at `at`
around_at : (size : ℕ) (ms : List Mapping) (d : DeviceAddress) (s : Search) → sound_table size ms ≡ true → s.lo < s.hi → s.hi ≤ length ms → Around ms d s → (at : ℕ) → s.lo ≤ at → at < s.hi
    → (found below : Bool) → holds (get_or ms at blank) d ≡ found → ltb d.0 (get_or ms at blank).device.0 ≡ below
    → Around ms d (pick found (search at at (s.probes + 1) true) (pick below (search s.lo at (s.probes + 1) false) (search (at + 1) s.hi (s.probes + 1) false)))
unfolding pick
around_at size ms d s sound h few a at from upto true below t u =
    let is = past-holder size d ms sound at (omega arith) t in
    record { low = omega arith; high = omega arith; holder = sym t; unmet = λ l. absurd (omega arith) }
around_at size ms d s sound h few a at from upto false true t u =
    let b = past-below d ms at (omega (arith, ltb-true d.0 (get_or ms at blank).device.0 u)) in
    record { low = a.low; high = b; holder = sym t; unmet = λ l. refl }
around_at size ms d s sound h few a at from upto false false t u =
    let b = past-above size d ms sound at (omega arith) (holds-passed (get_or ms at blank) d t (ltb-false d.0 (get_or ms at blank).device.0 u)) in
    record { low = omega arith; high = a.high; holder = sym (a.unmet h) ∙ a.holder; unmet = λ l. refl }

pub around_on : (size : ℕ) (ms : List Mapping) (d : DeviceAddress) (s : Search) → sound_table size ms ≡ true → s.lo < s.hi → s.hi ≤ length ms → Around ms d s → Around ms d (probed (get_or ms (middle_of s) blank) d s)
unfolding probed middle_of
around_on size ms d s sound h few a = let b = middle_in s.lo s.hi h in around_at size ms d s sound h few a ((s.lo + s.hi) / 2) b.0 b.1 _ _ refl refl

-- where no place is left, it is found
pub around_end : (ms : List Mapping) (d : DeviceAddress) (s : Search) → s.hi ≤ s.lo → Around ms d s → Placed ms d s.lo s.held
around_end ms d s h a =
    let l = a.low in
    let u = a.high in
    let e : s.lo ≡ s.hi = omega arith in
    record { place = omega arith; holder = rw e a.holder }

-- ---- the law: over a sound list it ends at the place of the address, and knows whether a mapping holds it

placed-next : (size : ℕ) (ms : List Mapping) (d : DeviceAddress) (fuel : ℕ) (s : Search) → sound_table size ms ≡ true → s.hi ≤ length ms → s.hi - s.lo ≤ suc fuel → Around ms d s → (r e : Search) → r ≡ probed (get_or ms (middle_of s) blank) d s
    → (r.hi ≤ length ms → r.hi - r.lo ≤ fuel → Around ms d r → Placed ms d e.lo e.held) → (some : Bool) → ltb s.lo s.hi ≡ some → Placed ms d (pick some e s).lo (pick some e s).held
unfolding pick
placed-next size ms d fuel s sound few enough a r e is ih true t =
    let h = ltb-true s.lo s.hi t in
    let n : Narrower s r = rw is (narrows (get_or ms (middle_of s) blank) d s h) in
    let x = n.shorter in
    let y = n.few in
    ih (omega arith) (omega arith) (rw is (around_on size ms d s sound h few a))
placed-next size ms d fuel s sound few enough a r e is ih false t = around_end ms d s (ltb-false s.lo s.hi t) a

placed-from : (size : ℕ) (ms : List Mapping) (d : DeviceAddress) (fuel : ℕ) (s : Search) → sound_table size ms ≡ true → s.hi ≤ length ms → s.hi - s.lo ≤ fuel → Around ms d s
    → Placed ms d (searched fuel ms d s).lo (searched fuel ms d s).held
unfolding searched
placed-from size ms d zero s sound few e a = around_end ms d s (omega arith) a
placed-from size ms d (suc fuel) s sound few e a =
    let r = probed (get_or ms (middle_of s) blank) d s in
    placed-next size ms d fuel s sound few e a r (searched fuel ms d r) refl (placed-from size ms d fuel r sound) _ refl

pub searched-placed : (size : ℕ) (ms : List Mapping) (d : DeviceAddress) → sound_table size ms ≡ true → Placed ms d (halved ms d).lo (halved ms d).held
unfolding halved
searched-placed size ms d sound = placed-from size ms d (length ms) (search_of (length ms)) sound (omega arith) (omega arith) (around_start ms d)

-- ---- the search under way

-- what is sought is what is left to do from here, with fuel enough
pub record Seeking (ms : List Mapping) (d : DeviceAddress) (s : Search) : Type 0 where
  pub few : s.hi ≤ length ms
  pub probes : s.probes + (s.hi - s.lo) ≤ length ms
  pub fuel : ℕ
  pub enough : s.hi - s.lo ≤ fuel
  pub is : halved ms d ≡ searched fuel ms d s

pub seek_start : (ms : List Mapping) (d : DeviceAddress) → Seeking ms d (search_of (length ms))
unfolding halved
seek_start ms d = record { few = omega arith; probes = omega arith; fuel = length ms; enough = omega arith; is = refl }

module _ {ms : List Mapping} {d : DeviceAddress} {s : Search} (k : Seeking ms d s) where
  pub seek_on : s.lo < s.hi → Seeking ms d (probed (get_or ms (middle_of s) blank) d s)
  unfolding searched
  seek_on h = go k.fuel k.enough k.is
    where
      n : Narrower s (probed (get_or ms (middle_of s) blank) d s)
      n = narrows (get_or ms (middle_of s) blank) d s h

      go : (fuel : ℕ) → s.hi - s.lo ≤ fuel → halved ms d ≡ searched fuel ms d s → Seeking ms d (probed (get_or ms (middle_of s) blank) d s)
      go zero e is = absurd (omega arith)
      go (suc fuel) e is =
          let x = n.shorter in
          let y = n.few in
          let z = n.one_more in
          let f = k.few in
          let p = k.probes in
          record { few = omega arith; probes = omega arith; fuel = fuel; enough = omega arith; is = is ∙ pick_true _ _ _ (lt-ltb _ _ h) }

  -- by the two tests of the mapping that a probe looks at
  module _ (h : s.lo < s.hi) where
    pub seek_found : holds (get_or ms ((s.lo + s.hi) / 2) blank) d ≡ true → Seeking ms d (search ((s.lo + s.hi) / 2) ((s.lo + s.hi) / 2) (s.probes + 1) true)
    unfolding probed middle_of
    seek_found e = rw (pick_true {A = Search} _ _ _ e) at (seek_on h)

    pub seek_below : holds (get_or ms ((s.lo + s.hi) / 2) blank) d ≡ false → d.0 < (get_or ms ((s.lo + s.hi) / 2) blank).device.0 → Seeking ms d (search s.lo ((s.lo + s.hi) / 2) (s.probes + 1) false)
    unfolding probed middle_of
    seek_below e l = rw (pick_false {A = Search} _ _ _ e, pick_true {A = Search} _ _ _ (lt-ltb _ _ l)) at (seek_on h)

    pub seek_above : holds (get_or ms ((s.lo + s.hi) / 2) blank) d ≡ false → (get_or ms ((s.lo + s.hi) / 2) blank).device.0 ≤ d.0 → Seeking ms d (search ((s.lo + s.hi) / 2 + 1) s.hi (s.probes + 1) false)
    unfolding probed middle_of
    seek_above e l = rw (pick_false {A = Search} _ _ _ e, pick_false {A = Search} _ _ _ (le-ltb _ _ l)) at (seek_on h)

  pub seek_end : (size : ℕ) → sound_table size ms ≡ true → s.hi ≤ s.lo → (s ≡ halved ms d) × Placed ms d s.lo s.held
  unfolding searched
  seek_end size sound h =
      let e : halved ms d ≡ s = k.is ∙ go k.fuel in
      (sym e, rw e at (searched-placed size ms d sound))
    where
      go : (fuel : ℕ) → searched fuel ms d s ≡ s
      go zero = refl
      go (suc fuel) = pick_false _ _ _ (le-ltb _ _ h)

-- ---- the number of probes: at most as many as the number held has binary digits

-- each probe leaves less than half
halves : (m : Mapping) (d : DeviceAddress) (s : Search) (x : ℕ) → s.lo < s.hi → s.hi - s.lo < 2 * x → (probed m d s).hi - (probed m d s).lo < x
unfolding probed middle_of
halves m d s x h w = go (holds m d) (ltb d.0 m.device.0)
  where
    go : (f b : Bool) → let r : Search = pick f (search ((s.lo + s.hi) / 2) ((s.lo + s.hi) / 2) (s.probes + 1) true) (pick b (search s.lo ((s.lo + s.hi) / 2) (s.probes + 1) false) (search ((s.lo + s.hi) / 2 + 1) s.hi (s.probes + 1) false)) in r.hi - r.lo < x
    go true b = unfold pick in omega arith
    go false true = unfold pick in omega arith
    go false false = unfold pick in omega arith

probes-next : (s e : Search) (k : ℕ) (some : Bool) → ltb s.lo s.hi ≡ some → (s.lo < s.hi → e.probes ≤ s.probes + k) → (pick some e s).probes ≤ s.probes + k
unfolding pick
probes-next s e k true t ih = ih (ltb-true s.lo s.hi t)
probes-next s e k false t ih = omega arith

probes-from : (ms : List Mapping) (d : DeviceAddress) (fuel : ℕ) (s : Search) (k : ℕ) → s.hi - s.lo < 2 ^ k → (searched fuel ms d s).probes ≤ s.probes + k
unfolding searched
probes-from ms d zero s k w = omega arith
probes-from ms d (suc fuel) s zero w = probes-next s _ 0 _ refl (λ h. absurd (omega arith))
probes-from ms d (suc fuel) s (suc k) w =
    let r = probed (get_or ms (middle_of s) blank) d s in
    probes-next s (searched fuel ms d r) (suc k) _ refl (λ h.
    let n = (narrows (get_or ms (middle_of s) blank) d s h).one_more in
    let less = halves (get_or ms (middle_of s) blank) d s (2 ^ k) h (omega (arith, two-pow-succ k)) in
    omega (arith, n, probes-from ms d fuel r k less))

pub halving_short : HalvingIsShort
unfolding probes_for halved
halving_short ms d digits h = omega (arith, probes-from ms d (length ms) (search_of (length ms)) digits (omega arith))

-- ---- the rule over all mappings held

-- as it is counted by the code
pub probes-counted : (ms : List Mapping) (d : DeviceAddress) (s : Search) → s ≡ halved ms d → s.probes ≡ probes_for ms d
unfolding probes_for
probes-counted ms d s e = rw e
