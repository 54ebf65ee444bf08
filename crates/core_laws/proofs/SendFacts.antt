-- Facts of what a processor sends.
use Rattle.std.proofs.Common.{◌≡◌, ◌≢◌, ℕ, zero, suc, is_none, ◌+◌, ◌*◌, ◌<◌, ◌==◌, Bool, true, cond, List, [], ◌∷◌, length, Option, Some, None, All, refl}
use Rattle.std.proofs.Common.{sym, ◌∙◌, ap, arith, slice_get, slice_index_or, slice_set, get_or}
use Rattle.std.specs.Prelude.{◌&&◌, count_by, fold}
use Rattle.std.proofs.lemmas.List.Elements.{All-head}
use Rattle.std.proofs.lemmas.Option.{option_and_then_some, slice_get-get_or}
use Rattle.std.proofs.lemmas.List.Quantifiers.{position-Some}
use Rattle.torus.specs.Shape.{Shape}
use Rattle.torus.specs.declared.shape.Class.{Class}
use Rattle.packet.specs.declared.kinds.Operation.{Operation}
use Rattle.packet.specs.declared.kinds.Packet.{Packet}
use Rattle.packet.specs.Spelling.{Spells, values_of}
use Rattle.packet.proofs.Shapes.{flits_above_zero, length-spelled}
use Rattle.packet.specs.declared.kinds.Reply.{Reply as Reply'}
use Rattle.script_lines.specs.declared.line.Line.{Line}
use Rattle.one_order.specs.declared.spin.OpenSpin.{OpenSpin}
use Rattle.tag_table.specs.Tags.{free_tag}
use Rattle.dateline_route.specs.declared.channel.Channel.{Channel}
use Rattle.one_order.specs.Following.{Following, is_finished, next_operation_of, is_empty, ready_operation as next_of}
use Rattle.one_order.specs.ProcessorRecord.{ProcessorRecord, ready}
use Rattle.packet.specs.Flits.{flits_of}
use Rattle.channel_number.specs.Ports.{injection_channel}
use Rattle.core_laws.proofs.Projection.{first_flit}
use Rattle.channel_number.specs.Order.{channel_at}
use Rattle.core_laws.proofs.ChannelFacts.{injection_is}
use Rattle.core_laws.proofs.AgentSteps.{option_map_some}

-- which injections are one
pub injection_tile : (s : Shape) (t u : ℕ) (c e : Class) → injection_channel s t c ≡ injection_channel s u e → t ≡ u
injection_tile s t u c e h = ap (λ (x : Channel). x.tile) (sym (injection_is s t c) ∙ (ap (channel_at s) h ∙ injection_is s u e))

pub injection_class : (s : Shape) (t u : ℕ) (c e : Class) → injection_channel s t c ≡ injection_channel s u e → c ≡ e
injection_class s t u c e h = ap (λ (x : Channel). x.class) (sym (injection_is s t c) ∙ (ap (channel_at s) h ∙ injection_is s u e))

-- what a processor has ready
pub ready_parts : (b : ProcessorRecord) (tag : ℕ) (o : Operation) → ready b ≡ Some (tag, o)
    → (next_operation_of b.following ≡ Some o) × (slice_get b.tags tag ≡ Some None)
ready_parts b tag o h = option_and_then_some _ (next_operation_of b.following) (tag, o) h (λ p is_p f.
    let k = option_map_some (λ (k : ℕ). (k, p)) (free_tag b.tags) (tag, o) f in
    let free = position-Some is_none b.tags k.0 None k.1 in
    let same_tag : k.0 ≡ tag = ap (λ (z : ℕ × Operation). z.0) k.2 in
    let same : p ≡ o = ap (λ (z : ℕ × Operation). z.1) k.2 in (
      is_p ∙ ap Some same,
      ap (slice_get b.tags) (sym same_tag)
          ∙ (slice_get-get_or b.tags k.0 None free.0 ∙ ap Some (is_none_only (get_or b.tags k.0 None) free.1)),
    ))
  where
    is_none_only : {A : Type 0} (o : Option A) → is_none o ≡ true → o ≡ None
    is_none_only None h = refl
    is_none_only (Some x) h = absurd (cc)

ended_parts : (spin : Option OpenSpin) (ahead : List Line) (last : Option Reply') (waiting : Bool) (o : Operation)
    → is_empty ahead && is_none spin && waiting ≡ true → next_of spin ahead last ≡ Some o → ⊥
ended_parts (Some x) [] last waiting o h r = cc
ended_parts (Some x) (l ∷ ahead) last waiting o h r = cc
ended_parts None [] last waiting o h r = cc
ended_parts None (l ∷ ahead) last waiting o h r = cc

-- a finished script has nothing ready
pub ended : (f : Following) (o : Operation) → is_finished f ≡ true → next_operation_of f ≡ Some o → ⊥
unfolding is_finished next_operation_of
ended f o h r = ended_parts f.spin f.ahead f.last (f.waiting == 0) o h r

fold_set : {A B : Type 0} (f : B → A → B) (b : B) (xs : List A) (k : ℕ) (y d : A) → ((c : B) → f c y ≡ f c (slice_index_or xs k d))
    → fold f b (slice_set xs k y) ≡ fold f b xs
fold_set f b [] k y d h = refl
fold_set f b (x ∷ xs) zero y d h = ap (λ c. fold f c xs) (h b)
fold_set f b (x ∷ xs) (suc k) y d h = fold_set f (f b x) xs k y d h

-- how many pass, where one is replaced by one alike
pub count_set : {A : Type 0} (test : A → Bool) (xs : List A) (k : ℕ) (y d : A) → test y ≡ test (slice_index_or xs k d)
    → count_by test (slice_set xs k y) ≡ count_by test xs
count_set test xs k y d h = fold_set (λ (n : ℕ) x. n + cond {A = ℕ} (test x) 1 0) 0 xs k y d (λ n. ap (λ (b : Bool). n + cond {A = ℕ} b 1 0) h)

-- the first flit of a packet isn't 0
pub head_some : (p : Packet) → Spells p (flits_of p) → first_flit (flits_of p) ≢ 0
head_some p h = at (flits_of p) (flits_above_zero p (flits_of p) h) (length-spelled p (flits_of p) h)
  where
    at : (xs : List ℕ) → All (λ n. 0 < n) xs → length xs ≡ 1 + 2 * length (values_of p) → first_flit xs ≢ 0
    at [] all len e = omega (arith, len)
    at (x ∷ xs) all len e = let some = All-head (λ n. 0 < n) x xs all in omega (arith, some, e)
