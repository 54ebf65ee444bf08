use Rattle.std.proofs.Common.{◌<◌, ◌∙◌, ℕ, [], length, map, ap, sym, subst}
use Rattle.std.specs.Prelude.{slice_index_or}
use Rattle.std.specs.Str.Lines.{lines}
use Rattle.std.proofs.lemmas.List.{length-map, length-replicate}
use Rattle.network_names.proofs.Noting.{gone_on, gone_step, gone_end, none_noted}
use Rattle.network_names.proofs.called.lines_naming.Goals as goal

pub loop-line-init : goal.loop-line-init
loop-line-init g c =
    let all = c.in_ok-found.ensures.items_if_clones_equal (λ y h. h) in
    record {
      size = ap length all ∙ length-replicate c.args.room c.as_slice.result;
      each = none_noted c.args.naming c.args.room (lines c.args.text.now) c.as_slice.result c.in_ok-found.found.items all c.as_slice.ensures;
    }

pub loop-line-preserved : goal.loop-line-preserved
loop-line-preserved g c =
    let naming = c.args.naming in
    let after = lines c.in-Some.after.now in
    let at = λ (x : ℕ). slice_index_or (map (λ w. w.now) c.loop-line.found.items) x [] in
    record {
      size = c.note.ensures.size ∙ c.loop-line.invariant.size;
      each = λ x h.
          ap (λ e. gone_on naming x after e) (c.note.ensures.each x (subst (λ n. x < n) (sym c.loop-line.invariant.size) h))
          ∙ gone_step naming x c.in-Some.line.now after (at x)
          ∙ ap (λ ls. gone_on naming x ls (at x)) (sym c.in-Some.ensures.some)
          ∙ c.loop-line.invariant.each x h;
    }

pub returns : goal.returns
returns g c =
    let naming = c.args.naming in
    let at = λ (x : ℕ). slice_index_or (map (λ w. w.now) c.loop-line.found.items) x [] in
    record {
      size = length-map c.loop-line.found.items (λ w. w.now) ∙ c.loop-line.invariant.size;
      each = λ x h.
          sym (gone_end naming x (at x))
          ∙ ap (λ ls. gone_on naming x ls (at x)) (sym c.in_default.ensures.none)
          ∙ c.loop-line.invariant.each x h;
    }
