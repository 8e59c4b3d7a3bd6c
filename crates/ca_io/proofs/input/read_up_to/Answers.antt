use Rattle.std.proofs.Common.{◌≤◌, ◌++◌, length, take, length-append, length-take, Ok, Err, Result, arith, OnErr}
use Rattle.std.proofs.KnownBytes.{Consumes-trans}
use Rattle.ca_io.proofs.input.read_up_to.Goals as goal

-- what is known in any case is known where there is an error
at_error : {T E P : Type 0} (r : Result T E) → P → OnErr r P
at_error (Ok _) p = tt
at_error (Err _) p = p

pub returns-in_err-extend_from_slice-clause-part : goal.returns-in_err-extend_from_slice-clause-part
returns-in_err-extend_from_slice-clause-part g c =
    let bytes = c.reads.bytes.items in
    let given = take c.in_ok-n.n c.read.new.buf in
    let bound = c.in_ok-n.ensures.bound in
    let short : length (bytes ++ given) ≤ c.args.most = omega (arith, length-append bytes given, length-take c.min-room.result c.reads.piece) in
    at_error c.from_residual-in_err-extend_from_slice.result (
      bytes ++ given,
      short,
      Consumes-trans (g.S.Source.left c.args.source.now) (g.S.Source.left c.reads.source) (g.S.Source.left c.read.new.self) bytes given c.reads.invariant.read c.in_ok-n.ensures.bytes.0,
    )
