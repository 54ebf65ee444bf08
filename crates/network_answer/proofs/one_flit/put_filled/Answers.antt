use Rattle.std.proofs.Common.{◌≡◌, ◌++◌, List, ℕ, length, map, sym, subst}
use Rattle.std.specs.Prelude.{codes, OnOk}
use Rattle.std.proofs.lemmas.List.{length-map}
use Rattle.network_text.specs.Lines.{first_lines}
use Rattle.deadlock_laws.specs.Fillings.{Filling}
use Rattle.dead_sets.specs.FillingFlags.{filling_of}
use Rattle.network_text.proofs.Three.{three_put}
use Rattle.network_answer.specs.OneFlit.{dead_set_text, filling_line_at}
use Rattle.network_answer.proofs.one_flit.put_filled.Goals as goal

pub returns : goal.returns
returns g c =
    let fs : List Filling = map (filling_of {A = g.row.A.Denot}) c.args.items.now in
    let start : List ℕ = c.args.out.now.items in
    let dead : List ℕ = dead_set_text c.args.flags.now in
    let end : List ℕ = codes "locks up\n" in
    subst (λ (n : ℕ). OnOk c.extend_from_slice.result (c.extend_from_slice.new.self.items
    ≡ start ++ (dead ++ (first_lines (filling_line_at fs) n ++ end)))) (sym (length-map c.args.items.now (filling_of {A = g.row.A.Denot})))
    (three_put c.extend_from_slice.result start c.put_dead_channels.new.out.items c.put_fillings.new.out.items c.extend_from_slice.new.self.items
    dead (first_lines (filling_line_at fs) (length c.args.items.now)) end
    c.in_ok-put_dead_channels.ensures c.in_ok-put_fillings.ensures c.extend_from_slice.ensures.items)
