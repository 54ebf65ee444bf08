-- The steps of the passes that make arcs.
use Rattle.std.proofs.Common.{◌≡◌, inl, inr, ℕ, ◌+◌, ◌<◌, Bool, true, false, if◌then◌else◌, get_or, List, length, set, sym, ◌∙◌, ap, subst, arith}
use Rattle.std.specs.Prelude.{slice_index}
use Rattle.std.proofs.lemmas.List.{get_or_read}
use Rattle.rising.specs.declared.edge.Edge.{Edge}
use Rattle.memory_models.specs.declared.kinds.Operation.{Operation}
use Rattle.memory_models.specs.declared.kinds.Rule.{Rule}
use Rattle.memory_models.specs.declared.kinds.Why.TheVariants.{Program, Read, Overwritten, Stale}
use Rattle.memory_models.specs.Trace.{has, operation_at, writes_rule, rule_key, IsMemoryTrace, next_write, source_at}
use Rattle.memory_models.specs.Order.{Applies, KeepsOrder}
use Rattle.memory_models.specs.Arcs.{IsChained, IsRule, AreArcs, ExtendsEdges, RisesByRule, RisesByWords, RisesOverStale, IsReadFrom, IsOverwritten, pushed_if, follows_at, is_stale_at, reads_at, is_overwritten_at}
use Rattle.memory_models.proofs.Pushed.{if_extends, if_rises, if_arcs}
use Rattle.memory_models.proofs.Lasts.{IsLast, AreLasts, lasts_more, rule_more, stale_more, follows_applies, stale_is}
use Rattle.memory_models.proofs.Orders.{load_uses, from_reads, from_overwritten, words_more}

pub keeps_by : (rules : List Rule) (rule : Rule) (ops : List Operation) (x y : ℕ) → IsRule rules rule → Applies rule ops x y → KeepsOrder rules ops x y
keeps_by rules rule ops x y (inl r) a = inl (r.0, r.1, subst (λ z. Applies z ops x y) (sym r.2) a)
keeps_by rules rule ops x y (inr e) a = inr (subst (λ z. Applies z ops x y) e a)

pub key_low : (rule : Rule) (words : ℕ) (ops : List Operation) (writes : List ℕ) (y : ℕ) → IsMemoryTrace words ops writes → y < length ops
    → rule_key rule (operation_at ops y) < words
key_low rule words ops writes y t low = by rule.same_word
  where
    by : (b : Bool) → (if b then (operation_at ops y).word else 0) < words
    by true = t.word y low
    by false = let w = t.word y low in omega arith

-- what a pass has made of one operation
pub record HasStepped (rules : List Rule) (rule : Rule) (words : ℕ) (ops : List Operation) (writes : List ℕ) (y : ℕ) (old new : List Edge)
    (lasts : List ℕ) (Done : Type 0) : Type 0 where
  pub arcs : AreArcs rules ops writes new
  pub more : ExtendsEdges old new
  pub rises : Done
  pub last : AreLasts rule ops words (y + 1) lasts

pub rule_step : (rules : List Rule) (rule : Rule) (words : ℕ) (ops : List Operation) (writes : List ℕ) (y key last v : ℕ) (wanted is : Bool)
    (lasts : List ℕ) (old new : List Edge) → IsMemoryTrace words ops writes → IsChained rule → IsRule rules rule → y < length ops
    → AreLasts rule ops words y lasts → AreArcs rules ops writes old → RisesByRule rule ops y old
    → key ≡ rule_key rule (operation_at ops y) → last ≡ get_or lasts key last → wanted ≡ follows_at rule ops last y
    → new ≡ pushed_if wanted (record { from = last; to = y }) old → is ≡ has rule.from (operation_at ops y).kind
    → v ≡ (if is then y else last)
    → HasStepped rules rule words ops writes y old new (set lasts key v) (RisesByRule rule ops (y + 1) new)
rule_step rules rule words ops writes y key last v wanted is lasts old new t chained r low are arcs rises key_is last_is wanted_is new_is is_is v_is =
    let key_l : rule_key rule (operation_at ops y) < words = key_low rule words ops writes y t low in
    let size = are.size in
    let at : slice_index lasts (rule_key rule (operation_at ops y)) ≡ last =
    ap (slice_index lasts) (sym key_is) ∙ sym (get_or_read lasts key last (omega (arith, key_l, key_is)) last_is 0) in
    let one : IsLast rule ops (rule_key rule (operation_at ops y)) y last =
    subst (λ z. IsLast rule ops (rule_key rule (operation_at ops y)) y z) at (are.each (rule_key rule (operation_at ops y)) key_l) in
    record {
      arcs = if_arcs rules ops writes wanted (record { from = last; to = y }) old new new_is arcs (λ e.
          (let a = follows_applies rule ops y last one (sym wanted_is ∙ e) in
          let before = a.own.before in
          record { from = omega arith; to = low; why = Program; is = keeps_by rules rule ops last y r a }));
      more = if_extends wanted (record { from = last; to = y }) old new new_is;
      rises = rule_more words rule ops writes y last old new t chained low one rises (if_extends wanted (record { from = last; to = y }) old new new_is)
          (λ number up e. if_rises wanted (record { from = last; to = y }) old new new_is number up (wanted_is ∙ e));
      last = subst (λ z. AreLasts rule ops words (y + 1) (set lasts z v)) (sym key_is)
          (subst (λ z. AreLasts rule ops words (y + 1) (set lasts (rule_key rule (operation_at ops y)) z)) (ap (λ z. if is then y else z) at ∙ sym v_is)
          (lasts_more rule ops words y lasts is are low key_l is_is));
    }

pub stale_step : (rules : List Rule) (words : ℕ) (ops : List Operation) (writes : List ℕ) (rule : Rule) (y key last v : ℕ) (wanted is : Bool)
    (lasts : List ℕ) (old new : List Edge) → IsMemoryTrace words ops writes → y < length ops → rule ≡ writes_rule
    → AreLasts writes_rule ops words y lasts → AreArcs rules ops writes old → RisesOverStale ops y old
    → key ≡ rule_key rule (operation_at ops y) → last ≡ get_or lasts key last → wanted ≡ is_stale_at ops last y
    → new ≡ pushed_if wanted (record { from = last; to = y }) old → is ≡ has rule.from (operation_at ops y).kind
    → v ≡ (if is then y else last)
    → HasStepped rules writes_rule words ops writes y old new (set lasts key v) (RisesOverStale ops (y + 1) new)
stale_step rules words ops writes rule y key last v wanted is lasts old new t low rule_is are arcs rises key_was last_is wanted_is new_is is_was v_is =
    let key_is : key ≡ rule_key writes_rule (operation_at ops y) = key_was ∙ ap (λ z. rule_key z (operation_at ops y)) rule_is in
    let is_is : is ≡ has writes_rule.from (operation_at ops y).kind = is_was ∙ ap (λ (z : Rule). has z.from (operation_at ops y).kind) rule_is in
    let key_l : rule_key writes_rule (operation_at ops y) < words = key_low writes_rule words ops writes y t low in
    let size = are.size in
    let at : slice_index lasts (rule_key writes_rule (operation_at ops y)) ≡ last =
    ap (slice_index lasts) (sym key_is) ∙ sym (get_or_read lasts key last (omega (arith, key_l, key_is)) last_is 0) in
    let one : IsLast writes_rule ops (rule_key writes_rule (operation_at ops y)) y last =
    subst (λ z. IsLast writes_rule ops (rule_key writes_rule (operation_at ops y)) y z) at (are.each (rule_key writes_rule (operation_at ops y)) key_l) in
    record {
      arcs = if_arcs rules ops writes wanted (record { from = last; to = y }) old new new_is arcs (λ e.
          (let a = stale_is ops y last one (sym wanted_is ∙ e) in
          let before = a.own.before in
          record { from = omega arith; to = low; why = Stale; is = a }));
      more = if_extends wanted (record { from = last; to = y }) old new new_is;
      rises = stale_more words ops writes y last old new t low one rises (if_extends wanted (record { from = last; to = y }) old new new_is)
          (λ number up e. if_rises wanted (record { from = last; to = y }) old new new_is number up (wanted_is ∙ e));
      last = subst (λ z. AreLasts writes_rule ops words (y + 1) (set lasts z v)) (sym key_is)
          (subst (λ z. AreLasts writes_rule ops words (y + 1) (set lasts (rule_key writes_rule (operation_at ops y)) z)) (ap (λ z. if is then y else z) at ∙ sym v_is)
          (lasts_more writes_rule ops words y lasts is are low key_l is_is));
    }

-- and the pass over words
pub record HasSteppedOn (rules : List Rule) (ops : List Operation) (writes : List ℕ) (y : ℕ) (old new : List Edge) : Type 0 where
  pub arcs : AreArcs rules ops writes new
  pub more : ExtendsEdges old new
  pub rises : RisesByWords ops writes (y + 1) new

pub word_step : (rules : List Rule) (words : ℕ) (ops : List Operation) (writes : List ℕ) (y before behind : ℕ) (reads next : Bool)
    (old mid new : List Edge) → IsMemoryTrace words ops writes → y < length ops → AreArcs rules ops writes old → RisesByWords ops writes y old
    → before ≡ source_at ops writes y → reads ≡ reads_at ops before y → mid ≡ pushed_if reads (record { from = before; to = y }) old
    → behind ≡ next_write ops writes y → next ≡ is_overwritten_at ops writes behind y → new ≡ pushed_if next (record { from = y; to = behind }) mid
    → HasSteppedOn rules ops writes y old new
word_step rules words ops writes y before behind reads next old mid new t low arcs rises before_is reads_are mid_is behind_is next_is new_is =
    let reads_is : reads ≡ reads_at ops (source_at ops writes y) y = reads_are ∙ ap (λ z. reads_at ops z y) before_is in
    let more_is : next ≡ is_overwritten_at ops writes (next_write ops writes y) y = next_is ∙ ap (λ z. is_overwritten_at ops writes z y) behind_is in
    let first = if_extends reads (record { from = before; to = y }) old mid mid_is in
    let second = if_extends next (record { from = y; to = behind }) mid new new_is in
    record {
      arcs = if_arcs rules ops writes next (record { from = y; to = behind }) mid new new_is
          (if_arcs rules ops writes reads (record { from = before; to = y }) old mid mid_is arcs (λ e.
          (let r = from_reads ops writes y (sym reads_is ∙ e) in
          let inside = t.place y low (load_uses (operation_at ops y).kind r.load) in
          record {
            from = subst (λ z. z < length ops) (sym before_is) (t.low (operation_at ops y).place inside);
            to = low;
            why = Read;
            is = subst (λ z. IsReadFrom ops writes z y) (sym before_is) r;
          }))) (λ e.
          (let o = from_overwritten ops writes y (sym more_is ∙ e) in
          record {
            from = low;
            to = subst (λ z. z < length ops) (sym behind_is) (t.low ((operation_at ops y).place + 1) o.more);
            why = Overwritten;
            is = subst (λ z. IsOverwritten ops writes y z) (sym behind_is) o;
          }));
      more = λ number up. first number (second number up);
      rises = words_more ops writes y old mid new rises first second
          (λ number up e. subst (λ z. number z < number y) before_is (if_rises reads (record { from = before; to = y }) old mid mid_is number up (reads_is ∙ e)))
          (λ number up e. subst (λ z. number y < number z) behind_is (if_rises next (record { from = y; to = behind }) mid new new_is number up (more_is ∙ e)));
    }
