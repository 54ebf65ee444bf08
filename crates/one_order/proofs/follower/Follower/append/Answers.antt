use Rattle.std.proofs.Common.{◌≡◌, ◌≤◌, ◌∷◌, ◌++◌, [], List, length, drop, refl, ◌∙◌, ap, subst, arith, length-append}
use Rattle.script_lines.specs.declared.line.Line.{Line}
use Rattle.one_order.specs.Following.{Following, unfenced, follower_with}
use Rattle.one_order.proofs.Appending.{same_kept, appended_as}
use Rattle.one_order.proofs.follower.Follower.append.Goals as goal

pub unfenced-self-inside-requires : goal.unfenced-self-inside-requires
unfenced-self-inside-requires g c =
    let within = c.self.invariant.within in
    let long = ap {A = List Line} length c.push_reserved.ensures.items in
    let kept = ap {A = List Line} length c.in_ok-try_reserve.ensures.items in
    let more = length-append c.try_reserve.new.self.items (c.args.line ∷ []) in
    let same = ap {A = List Line} length c.as_slice.ensures.value in
    omega (arith, within, long, kept, more, same)

pub invariant_of-self : goal.invariant_of-self
invariant_of-self g c = same_kept c.self.inside _ c.self.invariant c.try_reserve.ensures.items refl refl refl refl refl

pub invariant_of-self-2 : goal.invariant_of-self-2
invariant_of-self-2 g c =
    (appended_as c.self.inside c.args.line c.self.invariant c.args.self.now c.self.view_is c.requires.loads c.requires.few
    (record c.self.inside { lines = c.push_reserved.new.self; at = c.unfenced-self-inside.result })
    (c.push_reserved.ensures.items ∙ ap (λ (xs : List Line). xs ++ c.args.line ∷ []) c.in_ok-try_reserve.ensures.items) refl refl refl refl
    (subst (λ (xs : List Line). c.unfenced-self-inside.result ≤ length xs) c.as_slice.ensures.value c.unfenced-self-inside.ensures.within)
    (subst (λ (xs : List Line). drop c.unfenced-self-inside.result xs ≡ unfenced c.self.inside.spin c.self.inside.waiting (drop c.self.inside.at xs))
    c.as_slice.ensures.value c.unfenced-self-inside.ensures.place)).kept

pub returns-clause-appended : goal.returns-clause-appended
returns-clause-appended g c =
    (appended_as c.self.inside c.args.line c.self.invariant c.args.self.now c.self.view_is c.requires.loads c.requires.few
    (record c.self.inside { lines = c.push_reserved.new.self; at = c.unfenced-self-inside.result })
    (c.push_reserved.ensures.items ∙ ap (λ (xs : List Line). xs ++ c.args.line ∷ []) c.in_ok-try_reserve.ensures.items) refl refl refl refl
    (subst (λ (xs : List Line). c.unfenced-self-inside.result ≤ length xs) c.as_slice.ensures.value c.unfenced-self-inside.ensures.within)
    (subst (λ (xs : List Line). drop c.unfenced-self-inside.result xs ≡ unfenced c.self.inside.spin c.self.inside.waiting (drop c.self.inside.at xs))
    c.as_slice.ensures.value c.unfenced-self-inside.ensures.place)).shows
    ∙ ap (λ (f : Following). follower_with c.args.line f) c.self.view_is
