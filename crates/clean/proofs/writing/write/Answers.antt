-- `clean::writing::write` meets its contract: what the front end tells of an accepted source is what the page is made of. Assumes nothing.
use Rattle.std.proofs.lemmas.Result.{err_from_is_err_and}
use Rattle.reading.proofs.Answers.{told-program, told_refused}
use Rattle.clean.specs.Job.{refused}
use Rattle.clean.proofs.Paged.{front_long, lendable, writes}
use Rattle.clean.proofs.writing.write.Goals as goal

pub slice_bounds-written-end : goal.slice_bounds-written-end
slice_bounds-written-end c = front_long (told-program c.find.ensures _ c.in_ok-found.was)

pub written-requires : goal.written-requires
written-requires c = lendable (told-program c.find.ensures _ c.in_ok-found.was)

pub returns-in_err-found : goal.returns-in_err-found
returns-in_err-found c =
    let p = err_from_is_err_and c.from_residual.result c.from_residual.ensures.1 in
    rw (p.1, p.2) (refused _ (told_refused c.find.ensures _ c.in_err-found.was))

pub returns : goal.returns
returns c = writes (told-program c.find.ensures _ c.in_ok-found.was) c.written.ensures
