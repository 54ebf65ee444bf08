-- Texts that were taken one after another.
use Rattle.std.proofs.Common.{◌≡◌, ℕ, ◌++◌, List, [], Result, Ok, Err, sym, ap, subst, ◌∙◌, append_assoc}
use Rattle.std.proofs.KnownBytes.{Appends-nil, Appends-trans}
use Rattle.std.specs.Prelude.{OnOk, OnErr}
use Rattle.std.specs.Io.KnownBytes.{Appends}
use Rattle.report_lines.specs.Taken.{AppendsFront, Rose}
use Rattle.program_fault.specs.Done.{Output, TookAll, TookFront}
use Rattle.command_schedule.specs.Output.{Took}

-- nothing
pub took_none : (a : Output) (text : List ℕ) → text ≡ [] → TookAll a a text
took_none a text none = subst (TookAll a a) (sym none) (record { bytes = Appends-nil a.taken; quiet = λ i. a.failures })

-- one text behind another
pub took_then : (a b c : Output) (x y : List ℕ) → TookAll a b x → TookAll b c y → TookAll a c (x ++ y)
took_then a b c x y first more =
    record { bytes = Appends-trans a.taken b.taken c.taken x y first.bytes more.bytes; quiet = more.quiet ∙ first.quiet }

-- a beginning of one behind another
pub front_then : (a b c : Output) (x y : List ℕ) → TookAll a b x → TookFront b c y → TookFront a c (x ++ y)
front_then a b c x y first more = record {
  bytes = (
    x ++ more.bytes.0,
    more.bytes.1,
    ap (λ (t : List ℕ). x ++ t) more.bytes.2 ∙ sym (append_assoc x more.bytes.0 more.bytes.1),
    Appends-trans a.taken b.taken c.taken x more.bytes.0 first.bytes more.bytes.3,
  );
  failed = subst (λ n. Rose n c.failures) first.quiet more.failed;
}

-- a beginning of a text is one of a longer text
pub front_of_more : (a b : Output) (x y : List ℕ) → TookFront a b x → TookFront a b (x ++ y)
front_of_more a b x y h = record {
  bytes = (h.bytes.0, h.bytes.1 ++ y, ap (λ (t : List ℕ). t ++ y) h.bytes.2 ∙ append_assoc h.bytes.0 h.bytes.1 y, h.bytes.3);
  failed = h.failed;
}

-- one text behind another, or a beginning of both
pub then_took : {A E : Type 0} (a b c : Output) (x y whole : List ℕ) (r : Result A E) → x ++ y ≡ whole → TookAll a b x → Took y b c r → Took whole a c r
then_took a b c x y whole (Ok v) is first more = subst (TookAll a c) is (took_then a b c x y first more)
then_took a b c x y whole (Err e) is first more = subst (TookFront a c) is (front_then a b c x y first more)

-- what was taken of a text was taken of it by another name
pub took_same : {A E : Type 0} (a b : Output) (x y : List ℕ) (r : Result A E) → x ≡ y → Took x a b r → Took y a b r
took_same a b x y r is h = subst (λ (t : List ℕ). Took t a b r) is h

-- what a put of all bytes took
pub took_by : {A E : Type 0} (a b : Output) (text : List ℕ) (r : Result A E) → OnOk r (Appends a.taken b.taken text) → OnErr r (AppendsFront a.taken b.taken text)
    → OnOk r (b.failures ≡ a.failures) → OnErr r (Rose a.failures b.failures) → Took text a b r
took_by a b text (Ok x) ok err quiet failed = record { bytes = ok; quiet = quiet }
took_by a b text (Err e) ok err quiet failed = record { bytes = err; failed = failed }

pub all_same : (a b : Output) (x y : List ℕ) → x ≡ y → TookAll a b x → TookAll a b y
all_same a b x y is h = subst (λ (t : List ℕ). TookAll a b t) is h

pub front_same : (a b : Output) (x y : List ℕ) → x ≡ y → TookFront a b x → TookFront a b y
front_same a b x y is h = subst (λ (t : List ℕ). TookFront a b t) is h
