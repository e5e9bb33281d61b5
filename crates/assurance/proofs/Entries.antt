-- What a test says of every entry of the table of requests holds of the one that a target and a number have.
use Prim.Native.Nat.{ℕ}
use mathlib.Core.Path.{◌≡◌}
use mathlib.Core.Bool.{Bool, true, false}
use mathlib.Core.List.{List, [], ◌∷◌}
use mathlib.Core.Option.{Option, none, some}
use lib.Dec.{eqb}
use Rattle.answer.specs.Tests.{◌and◌, pick}
use Rattle.answer.proofs.Tests.{and_true}
use Rattle.emulator.specs.Requests.{Entry, entry_in}

unfoldable pub every : (Entry → Bool) → List Entry → Bool
every test [] = true
every test (r ∷ rs) = test r and every test rs

pub entry-by : (test : Entry → Bool) (P : Option Entry → Type 0) → P none → ((r : Entry) → test r ≡ true → P (some r)) → (rs : List Entry) → every test rs ≡ true
    → (target number : ℕ) → P (entry_in rs target number)
unfolding entry_in every pick
entry-by test P p h [] all target number = p
entry-by test P p h (r ∷ rs) all target number =
    let a = and_true _ _ all in
    go (eqb r.target target and eqb r.number number) (h r a.0) (entry-by test P p h rs a.1 target number)
  where
    go : (t : Bool) → P (some r) → P (entry_in rs target number) → P (pick t (some r) (entry_in rs target number))
    go true here rest = here
    go false here rest = rest
