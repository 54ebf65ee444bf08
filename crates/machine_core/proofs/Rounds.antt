-- A round, made part by part: what is made so far leads where the attempts so far lead.
use Rattle.std.proofs.Common.{◌≡◌, ℕ, ◌+◌, ◌*◌, ◌<◌, List, [], ◌∷◌, ◌++◌, map, Option, Some, None, refl, sym, ◌∙◌, ap, subst, arith}
use Rattle.std.specs.List.{flat_map, range_with_len}
use Rattle.std.proofs.lemmas.List.{map-append, flat_map_more}
use Rattle.std.proofs.lemmas.List.FromFn.{map-range_with_len_more}
use Rattle.std.proofs.lemmas.List.Folds.{flat_map-map}
use Rattle.torus.specs.Shape.{Shape, dims_of, tiles_of}
use Rattle.torus.specs.declared.step.Step.{Step}
use Rattle.torus.specs.declared.step.Choice.{Choice}
use Rattle.channel_number.specs.Ports.{port_count}
use Rattle.one_order.specs.Events.{Event}
use Rattle.machine_parts.specs.Core.{State, step, attempts_of, round_at, round}
use Rattle.machine_parts.specs.Machine.{Core, built_to, event_in, core_with, core_next, core_after}
use Rattle.torus.specs.Choices.{processor_choices, bank_choices, takes_of_all, puts_of_all, credits_of_all, router_choices}

-- attempts, one after the other
pub core_append : (c : Core) (xs ys : List Step) → core_after c (xs ++ ys) ≡ core_after (core_after c xs) ys
core_append c [] ys = refl
core_append c (x ∷ xs) ys = core_append (core_next c x) xs ys

-- attempts keep the shape
next_shape : (c : Core) (e : Event) (o : Option State) → (core_with c e o).shape ≡ c.shape
next_shape c e None = refl
next_shape c e (Some s) = refl

pub same_shape : (c : Core) (xs : List Step) → (core_after c xs).shape ≡ c.shape
same_shape c [] = refl
same_shape c (x ∷ xs) = same_shape (core_next c x) xs ∙ next_shape c (event_in (built_to c) c.state x) (step (built_to c) c.state x)

-- a tile that is there before attempts is there after them
pub tile_stays : (t : ℕ) (c now : Core) (xs : List Step) → now ≡ core_after c xs → t < tiles_of c.shape → t < tiles_of now.shape
tile_stays t c now xs is h = subst (λ (s : Shape). t < tiles_of s) (sym (ap (λ (x : Core). x.shape) is ∙ same_shape c xs)) h

pub tile_stays_once : (t : ℕ) (c now : Core) (x : Step) → now ≡ core_next c x → t < tiles_of c.shape → t < tiles_of now.shape
tile_stays_once t c now x is h = tile_stays t c now (x ∷ []) is h

-- one attempt more
pub attempt_more : (start now after : Core) (xs : List Step) (x : Step) → now ≡ core_after start xs → after ≡ core_next now x
    → after ≡ core_after start (xs ++ x ∷ [])
attempt_more start now after xs x so_far is = is ∙ (ap (λ (v : Core). core_next v x) so_far ∙ sym (core_append start xs (x ∷ [])))

-- one attempt more of a choice for each port
pub port_more : (f : ℕ → Choice) (agent n : ℕ) (c now after : Core) → now ≡ core_after c (attempts_of agent (map f (range_with_len 0 n)))
    → after ≡ core_next now (record { agent = agent; choice = f n })
    → after ≡ core_after c (attempts_of agent (map f (range_with_len 0 (n + 1))))
port_more f agent n c now after so_far is =
    attempt_more c now after (attempts_of agent (map f (range_with_len 0 n))) (record { agent = agent; choice = f n }) so_far is
    ∙ ap (core_after c)
    (sym (map-append (λ (choice : Choice). record { agent = agent; choice = choice }) (map f (range_with_len 0 n)) (f n ∷ []))
    ∙ ap (attempts_of agent) (sym (map-range_with_len_more f 0 n n (omega arith))))

-- a part for each of n numbers, and then that of n
pub parts_more : (f : ℕ → List Step) (n : ℕ) → flat_map f (range_with_len 0 (n + 1)) ≡ flat_map f (range_with_len 0 n) ++ f n
parts_more f n =
    sym (flat_map-map f (λ (k : ℕ). k) (range_with_len 0 (n + 1)))
    ∙ (ap (flat_map f) (map-range_with_len_more (λ (k : ℕ). k) 0 n n (omega arith))
    ∙ (sym (flat_map_more f [] (map (λ (k : ℕ). k) (range_with_len 0 n)) n)
    ∙ ap (λ (xs : List Step). xs ++ f n) (flat_map-map f (λ (k : ℕ). k) (range_with_len 0 n))))

-- one tile more
pub part_more : (f : ℕ → List Step) (n : ℕ) (c now after : Core) → now ≡ core_after c (flat_map f (range_with_len 0 n)) → after ≡ core_after now (f n)
    → after ≡ core_after c (flat_map f (range_with_len 0 (n + 1)))
part_more f n c now after so_far is =
    is
    ∙ (ap (λ (x : Core). core_after x (f n)) so_far
    ∙ (sym (core_append c (flat_map f (range_with_len 0 n)) (f n)) ∙ ap (core_after c) (sym (parts_more f n))))

-- the parts of a router's turn, one after the other
pub router_parts : (ports t : ℕ) (start takes puts credits : Core)
    → takes ≡ core_after start (attempts_of (3 * t + 1) (takes_of_all ports))
    → puts ≡ core_after takes (attempts_of (3 * t + 1) (puts_of_all ports))
    → credits ≡ core_after puts (attempts_of (3 * t + 1) (credits_of_all ports))
    → credits ≡ core_after start (attempts_of (3 * t + 1) (router_choices ports))
router_parts ports t start takes puts credits a b c =
    let x : List Choice = takes_of_all ports in
    let y : List Choice = puts_of_all ports in
    let z : List Choice = credits_of_all ports in
    let routed : (choices more : List Choice) (from to : Core) → to ≡ core_after from (attempts_of (3 * t + 1) choices)
    → core_after from (attempts_of (3 * t + 1) (choices ++ more)) ≡ core_after to (attempts_of (3 * t + 1) more)
    = λ choices more from to is.
    ap (core_after from) (map-append (λ (choice : Choice). record { agent = 3 * t + 1; choice = choice }) choices more)
    ∙ (core_append from (attempts_of (3 * t + 1) choices) (attempts_of (3 * t + 1) more)
    ∙ ap (λ (v : Core). core_after v (attempts_of (3 * t + 1) more)) (sym is)) in
    let two : puts ≡ core_after start (attempts_of (3 * t + 1) (x ++ y)) = b ∙ sym (routed x y start takes a) in
    c ∙ sym (routed (x ++ y) z start puts two)

-- the turns of a tile's agents, one after the other
pub tile_parts : (ports t : ℕ) (start first second last : Core)
    → first ≡ core_after start (attempts_of (3 * t) processor_choices)
    → second ≡ core_after first (attempts_of (3 * t + 1) (router_choices ports))
    → last ≡ core_after second (attempts_of (3 * t + 2) bank_choices)
    → last ≡ core_after start (round_at ports t)
tile_parts ports t start first second last a b c =
    let own : List Step = attempts_of (3 * t) processor_choices in
    let router : List Step = attempts_of (3 * t + 1) (router_choices ports) in
    let bank : List Step = attempts_of (3 * t + 2) bank_choices in
    let both : second ≡ core_after start (own ++ router) = b ∙ (ap (λ (v : Core). core_after v router) a ∙ sym (core_append start own router)) in
    c ∙ (ap (λ (v : Core). core_after v bank) both ∙ sym (core_append start (own ++ router) bank))

-- the parts of all tiles
pub all_parts : (s : Shape) (dims tiles : ℕ) → dims ≡ dims_of s → tiles ≡ tiles_of s → flat_map (round_at (8 * dims + 2)) (range_with_len 0 tiles) ≡ round s
all_parts s dims tiles d t =
    ap (λ (n : ℕ). flat_map (round_at (8 * n + 2)) (range_with_len 0 tiles)) d
    ∙ ap (λ (n : ℕ). flat_map (round_at (port_count (dims_of s))) (range_with_len 0 n)) t
