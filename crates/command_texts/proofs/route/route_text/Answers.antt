-- Where the output failed, a beginning of the route's lines was taken.
use Rattle.std.proofs.Common.{◌≡◌, ap, arith, ◌∙◌}
use Rattle.std.proofs.lemmas.Result.{err_from_is_err_and}
use Rattle.std.specs.List.{flat_map}
use Rattle.torus.specs.Shape.{Shape, tiles_of}
use Rattle.command_texts.specs.Lines.{channel_line, route_lines}
use Rattle.command_texts.proofs.route.route_text.Goals as goal

pub returns-in_err-put_route : goal.returns-in_err-put_route
returns-in_err-put_route g c =
    let p = err_from_is_err_and c.from_residual-in_err-put_route.result c.from_residual-in_err-put_route.ensures.1 in
    let tiles : tiles_of c.torus-torus.result.now ≡ tiles_of c.in_ok-machine.machine.shape = ap tiles_of c.torus-torus.ensures.value in
    rw (p.1, p.2) (
      tt,
      (
        _,
        record {
          machine = c.in_ok-machine.machine;
          read = c.in_ok-machine.ensures;
          from = omega arith;
          to = omega arith;
          is = ap (flat_map (channel_line c.torus-torus.result.now)) (c.as_slice.ensures.value ∙ c.route.ensures.route)
              ∙ ap (λ (s : Shape). route_lines s c.args.src c.args.dst c.args.class) c.torus-torus.ensures.value;
        },
        record { bytes = c.in_err-put_route.ensures.err; failed = c.in_err-put_route.ensures.failed },
      ),
    )
