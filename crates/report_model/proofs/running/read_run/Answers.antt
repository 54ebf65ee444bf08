use Rattle.std.proofs.Common.{◌<◌, length, ap, arith}
use Rattle.report_lines.proofs.Joined.{line_some}
use Rattle.report_model.specs.Run.{ModelledRun, run_seen}
use Rattle.report_model.proofs.Reading.{all_read, one_line_more, read_more, read_start}
use Rattle.report_model.proofs.running.read_run.Goals as goal

pub loop-line-init : goal.loop-line-init
loop-line-init g c = record {
  read = read_start c.args.text.now (run_seen c.none-run.result) c.none-run.ensures;
  bound = omega (arith, ap (λ (r : ModelledRun). r.count) c.none-run.ensures);
}

pub loop-line-preserved : goal.loop-line-preserved
loop-line-preserved g c =
    let longer : length c.in-Some.after.now < length c.loop-line.rest.now =
    omega (
      arith,
      line_some c.in-Some.line c.in-Some.after.now,
      ap length c.in-Some.ensures.found.1,
    ) in
    let taken = c.in_ok-take.ensures in
    let one = one_line_more (run_seen c.loop-line.run) c.in-Some.line in
    let counted = ap (λ (r : ModelledRun). r.count) taken in
    record {
      read = read_more c.args.text.now c.loop-line.rest.now c.in-Some.after.now (run_seen c.loop-line.run) (run_seen c.take.new.self) c.in-Some.line
          c.loop-line.invariant.read c.in-Some.ensures.found.1 c.in-Some.ensures.found.0 taken;
      bound = omega (arith, longer, one, counted, c.loop-line.invariant.bound);
    }

pub loop-line-smaller : goal.loop-line-smaller
loop-line-smaller g c =
    omega (arith, line_some c.in-Some.line c.in-Some.after.now, ap length c.in-Some.ensures.found.1)

pub returns : goal.returns
returns g c = λ lines fits is.
    all_read c.args.text.now c.loop-line.rest.now (run_seen c.loop-line.run) c.loop-line.invariant.read c.in_default.ensures.reads lines fits is
