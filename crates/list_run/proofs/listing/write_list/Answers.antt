use Rattle.std.proofs.Common.{◌≡◌, ◌++◌, inl, inr, rules}
use Rattle.std.proofs.KnownBytes.{Appends-trans}
use Rattle.list_run.specs.Lines.{count_line}
use Rattle.list_run.proofs.laws.Lines.{cut_behind}
use Rattle.list_run.proofs.listing.write_list.Goals as goal

pub returns-in_err-count-clause-failed : goal.returns-in_err-count-clause-failed
returns-in_err-count-clause-failed g c is = let (out, n, far, less, cut) = c.in_err-count.ensures.part in (out, n, inr far, less, cut)

pub returns-in_err-last-clause-memory : goal.returns-in_err-last-clause-memory
returns-in_err-last-clause-memory g c fault is = let (out, far, list, took) = c.in_ok-count.ensures.all in inr (out, far, took)

pub returns-in_err-write_all-clause-failed : goal.returns-in_err-write_all-clause-failed
returns-in_err-write_all-clause-failed g c is =
    let same : c.as_bytes.result.now ≡ count_line c.in_ok-count.count = search rules in
    let (out, far, list, took) = c.in_ok-count.ensures.all in
    let (n, less, part) = c.in_err-write_all.ensures.part in
    let (m, below, cut) = cut_behind out _ _ n _ _ _ same less took part in
    (out ++ count_line c.in_ok-count.count, m, inl list, below, cut)

pub returns-clause-whole : goal.returns-clause-whole
returns-clause-whole g c =
    let same : c.as_bytes.result.now ≡ count_line c.in_ok-count.count = search rules in
    let (out, far, list, took) = c.in_ok-count.ensures.all in
    (out ++ count_line c.in_ok-count.count, list, Appends-trans _ _ _ out _ took (rw same at c.in_ok-write_all.ensures.written))
