-- `registers::read` meets its contract.
use Rattle.std.proofs.Common.{◌≡◌, ◌≤◌, ◌<◌, true, length, take, sym, ◌∙◌, ap, arith}
use lib.Seq.{sets, length-take-le}
use Rattle.answer.specs.Tests.{is_some}
use Rattle.registers.specs.Rows.{row_count, row_of, size_of}
use Rattle.registers.specs.File.{file_of, current}
use Rattle.registers.specs.Access.{read_value}
use Rattle.registers.proofs.Rows.{size-most}
use Rattle.registers.proofs.File.{set_is}
use Rattle.registers.proofs.Listed.{row_there}
use Rattle.registers.proofs.Access.{readable, value_read}
use Rattle.registers.proofs.read.Goals as goal
use Rattle.registers.proofs.read.Goals.{After-unwrap-row, After-size_of-size}

row : (c : After-unwrap-row) → c.unwrap-row.result ≡ row_of c.args.kind c.args.selector
row c = rw c.unwrap-row.ensures at c.row_of.ensures.0

-- the value lies in the register
small : (c : After-size_of-size) → c.size_of-size.result ≤ length c.current-r.result.bytes
small c =
    let is = rw c.unwrap-row.ensures at c.row_of.ensures.0 in
    let bound : c.unwrap-row.result < row_count = rw is (readable _ _ _ _ _ c.requires.1).bound in
    omega (arith, c.size_of-size.ensures, size-most c.args.words c.unwrap-row.result c.requires.0 bound, c.current-r.ensures.1)

value : (c : After-size_of-size) → read_value c.args.words (file_of c.args.words c.args.registers) c.args.kind c.args.selector ≡ take c.size_of-size.result c.current-r.result.bytes
value c =
    let is = rw c.unwrap-row.ensures at c.row_of.ensures.0 in
    let held : is_some (current c.args.words (file_of c.args.words c.args.registers) c.unwrap-row.result) ≡ true = rw is (readable _ _ _ _ _ c.requires.1).held in
    value_read _ _ _ _ _ c.current-r.result is c.current-r.ensures.0 (sym (set_is _ _ c.current-r.result) ∙ ap is_some c.current-r.ensures.0 ∙ held)
    ∙ rw c.size_of-size.ensures

pub unwrap-row-requires : goal.unwrap-row-requires
unwrap-row-requires c = row_there _ _ c.row_of.ensures.0 (readable _ _ _ _ _ c.requires.1).bound

pub current-r-requires : goal.current-r-requires
current-r-requires c = (c.requires.0, rw (row c) (readable _ _ _ _ _ c.requires.1).bound)

pub size_of-size-requires : goal.size_of-size-requires
size_of-size-requires c = rw (row (goal.at.size_of-size-requires c).After-unwrap-row) (readable _ _ _ _ _ c.requires.1).bound

pub copy-requires : goal.copy-requires
copy-requires c =
    let m = (goal.at.copy-requires c).After-size_of-size in
    let is = row (goal.at.copy-requires c).After-unwrap-row in
    let fits : size_of c.args.words c.unwrap-row.result ≤ length c.args.buf.now = rw is (readable _ _ _ _ _ c.requires.1).fits in
    (omega (arith, c.size_of-size.ensures, fits), omega (arith, small m))

pub returns : goal.returns
returns c =
    let m = (goal.at.returns c).After-size_of-size in
    let v = value m in
    (c.copy.ensures ∙ ap (sets c.args.buf.now 0) (sym v), sym (ap length v ∙ length-take-le _ _ (small m)))
