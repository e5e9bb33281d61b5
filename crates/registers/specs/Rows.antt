-- The rows of the register table (rule 5.2), by rising type and then rising selector.
use Rattle.std.specs.Prelude.{ℕ, zero, suc, ◌*◌, Bool, List, [], ◌∷◌, get_or, ltb, leb, eqb}
use Rattle.answer.specs.Tests.{◌and◌, pick}

-- the part types
abbrev pub OfferedFeatures : ℕ
OfferedFeatures = 0x100

abbrev pub DriverFeatures : ℕ
DriverFeatures = 0x101

abbrev pub CommonField : ℕ
CommonField = 0x102

abbrev pub DeviceStatus : ℕ
DeviceStatus = 0x103

abbrev pub QueueConfig : ℕ
QueueConfig = 0x104

abbrev pub NotifyConfig : ℕ
NotifyConfig = 0x105

-- the size of a value: so many bytes, or as many as the card's words of features take (rule 5.21)
pub data Width : Type 0 where
  fixed : ℕ → Width
  features : Width

-- a register: its part's type, its selector number and the size of its value
pub record Row : Type 0 where
  pub kind : ℕ
  pub selector : ℕ
  pub width : Width

abbrev pub row : ℕ → ℕ → Width → Row
row kind selector width = record { kind = kind; selector = selector; width = width }

-- Row 0 is the constant; the others are kept.
abbrev pub rows : List Row
rows =
    row OfferedFeatures 0 features
    ∷ row DriverFeatures 0 features
    ∷ row CommonField 0 (fixed 4)
    ∷ row CommonField 8 (fixed 4)
    ∷ row CommonField 16 (fixed 2)
    ∷ row CommonField 22 (fixed 2)
    ∷ row DeviceStatus 0 (fixed 1)
    ∷ row QueueConfig 0 (fixed 32)
    ∷ row QueueConfig 1 (fixed 32)
    ∷ row QueueConfig 2 (fixed 32)
    ∷ row QueueConfig 3 (fixed 32)
    ∷ row NotifyConfig 0 (fixed 8)
    ∷ row NotifyConfig 1 (fixed 8)
    ∷ row NotifyConfig 2 (fixed 8)
    ∷ row NotifyConfig 3 (fixed 8)
    ∷ []

abbrev pub row_count : ℕ
row_count = 15

abbrev pub status_row : ℕ
status_row = 6

-- what is read past the end of the table
abbrev pub no_row : Row
no_row = row 0 0 (fixed 0)

unfoldable pub kind_of : ℕ → ℕ
kind_of i = (get_or rows i no_row).kind

unfoldable pub selector_of : ℕ → ℕ
selector_of i = (get_or rows i no_row).selector

unfoldable pub width_of : ℕ → Width
width_of i = (get_or rows i no_row).width

-- the bytes of a size, on a card with `w` words of features
unfoldable pub size_in : ℕ → Width → ℕ
size_in w (fixed n) = n
size_in w features = 8 * w

-- rules 5.2 and 5.21: the size of a row's value, on a card with `w` words of features
unfoldable pub size_of : ℕ → ℕ → ℕ
size_of w i = size_in w (width_of i)

-- the first of the `n` rows from `i` on with that type and selector number, or the one behind them
unfoldable pub row_from : ℕ → ℕ → ℕ → ℕ → ℕ
row_from kind selector i zero = i
row_from kind selector i (suc n) = pick (eqb (kind_of i) kind and eqb (selector_of i) selector) i (row_from kind selector (suc i) n)

-- the row of a type and a selector number; `row_count` where none is listed
unfoldable pub row_of : ℕ → ℕ → ℕ
row_of kind selector = row_from kind selector 0 row_count

-- a selector number that is listed for its type
unfoldable pub selects : ℕ → ℕ → Bool
selects kind selector = ltb (row_of kind selector) row_count

-- the six types of the table
unfoldable pub listed : ℕ → Bool
listed kind = leb OfferedFeatures kind and leb kind NotifyConfig

-- rules 5.2 and 5.19: how many of the selector's 8 bytes a type uses, the low ones: 4 of a common field, 2 of queue and notify, else none
unfoldable pub selector_width : ℕ → ℕ
selector_width kind = pick (eqb kind CommonField) 4 (pick (leb QueueConfig kind) 2 0)
