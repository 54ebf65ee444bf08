-- Wrong meanings of operations: what the definition leaves of a word, and what each wrong one leaves of it.
use Rattle.std.proofs.Common.{◌≡◌, ℕ, ◌+◌, ◌-◌, ◌%◌, ◌^◌, if◌then◌else◌, refl}
use Rattle.std.specs.Prelude.{nat_le, ◌==◌}
use Rattle.packet.specs.declared.kinds.Op.TheVariants.{Swap, Cas, Add, Max, Min}
use Rattle.packet.specs.declared.kinds.Reply.TheVariants.{Old}
use Rattle.packet.specs.Memory.{new_word, reply_to}

-- a word as a number in two's complement, raised by 2^63, so that the order is that of ℕ
abbrev raised : ℕ → ℕ
raised w = (w + 2 ^ 63) % 2 ^ 64

-- wrong: the greater and the lesser of signed numbers
abbrev signed_max : ℕ → ℕ → ℕ
signed_max v w = if nat_le (raised w) (raised v) then v else w

abbrev signed_min : ℕ → ℕ → ℕ
signed_min v w = if nat_le (raised w) (raised v) then w else v

-- words have no sign: the word of all ones is the greatest
max_of_words : new_word (Max 5) (2 ^ 64 - 1) ≡ 2 ^ 64 - 1
max_of_words = refl

max_of_signed_numbers : signed_max 5 (2 ^ 64 - 1) ≡ 5
max_of_signed_numbers = refl

min_of_words : new_word (Min 5) (2 ^ 64 - 1) ≡ 5
min_of_words = refl

min_of_signed_numbers : signed_min 5 (2 ^ 64 - 1) ≡ 2 ^ 64 - 1
min_of_signed_numbers = refl

-- wrong: stores whatever it finds
abbrev cas_on_any_word : ℕ → ℕ → ℕ → ℕ
cas_on_any_word e n w = n

-- wrong: stores exactly if the words differ
abbrev cas_on_a_mismatch : ℕ → ℕ → ℕ → ℕ
cas_on_a_mismatch e n w = if w == e then w else n

-- wrong: compares with the second value, and stores the first
abbrev cas_exchanged : ℕ → ℕ → ℕ → ℕ
cas_exchanged e n w = if w == n then e else w

-- a word that isn't the expected one stays
cas_finds_another : new_word (Cas 7 9) 8 ≡ 8
cas_finds_another = refl

any_word_is_replaced : cas_on_any_word 7 9 8 ≡ 9
any_word_is_replaced = refl

a_mismatch_is_replaced : cas_on_a_mismatch 7 9 8 ≡ 9
a_mismatch_is_replaced = refl

-- the expected one is replaced
cas_finds_it : new_word (Cas 7 9) 7 ≡ 9
cas_finds_it = refl

a_match_is_kept : cas_on_a_mismatch 7 9 7 ≡ 7
a_match_is_kept = refl

a_match_is_kept_by_the_exchanged : cas_exchanged 7 9 7 ≡ 7
a_match_is_kept_by_the_exchanged = refl

-- wrong: a sum that doesn't wrap, and one that stays at the greatest word
abbrev add_without_end : ℕ → ℕ → ℕ
add_without_end v w = w + v

abbrev add_up_to_the_greatest : ℕ → ℕ → ℕ
add_up_to_the_greatest v w = if nat_le (w + v) (2 ^ 64 - 1) then w + v else 2 ^ 64 - 1

sum_wraps : new_word (Add 2) (2 ^ 64 - 1) ≡ 1
sum_wraps = refl

sum_goes_on : add_without_end 2 (2 ^ 64 - 1) ≡ 2 ^ 64 + 1
sum_goes_on = refl

sum_stays : add_up_to_the_greatest 2 (2 ^ 64 - 1) ≡ 2 ^ 64 - 1
sum_stays = refl

-- a swap leaves its value, and replies the word that it found; wrong: replies the word that it leaves
swap_leaves_its_value : new_word (Swap 3) 8 ≡ 3
swap_leaves_its_value = refl

swap_replies_what_it_found : reply_to (Swap 3) 8 ≡ Old 8
swap_replies_what_it_found = refl

swap_replies_what_it_leaves : Old (new_word (Swap 3) 8) ≡ Old 3
swap_replies_what_it_leaves = refl
