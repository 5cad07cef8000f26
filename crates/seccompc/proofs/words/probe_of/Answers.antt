use Rattle.std.proofs.Common.{◌≡◌, ℕ, ℤ, pos, negsuc, ◌<◌, ◌^◌, List, [], ◌∷◌, Result, Ok, Err, Some, codes, sym, subst, refl, ◌∙◌, arith}
use Rattle.std.proofs.Common.{rules, w64, FitsSigned}
use Rattle.std.specs.Result.{OkIff, result_ok}
use Rattle.std.proofs.lemmas.Int.{ints, to_z-of_z}
use Rattle.seccomp_text.specs.Numbers.{IsWritten}
use Rattle.seccompc.specs.declared.words.Command.{Command}
use Rattle.seccompc.specs.declared.words.Command.TheVariants.{Probe, List as Listing, Run}
use Rattle.seccompc.specs.Words.{IsSignedText, IsSigned64, IsCommand}
use Rattle.seccompc.proofs.words.probe_of.Goals as goal

-- Words whose third is no number with a sign are no probe.
no_call_number : (arch nr index value : List ℕ) → ((z : ℤ) → IsSigned64 z → IsSignedText nr z → ⊥)
    → (command : Command) → IsCommand (codes "probe" ∷ arch ∷ nr ∷ index ∷ value ∷ []) command → ⊥
no_call_number arch nr index value none (Probe a n i v) is =
    let e : nr ≡ is.nr_text = let all = is.all in cc in
    none n is.nr_fits (subst (λ text. IsSignedText text n) (sym e) is.nr_written)
no_call_number arch nr index value none (Listing a) is = cc
no_call_number arch nr index value none (Run a f n) is = cc

-- What `try_from` gives of a number is that number, if 8 bits hold it.
byte_same : {E : Type 0} (n b : ℕ) (r : Result ℕ E) → OkIff r (n < 2 ^ 8) n → Some b ≡ result_ok r → (b ≡ n) × (n < 2 ^ 8)
byte_same n b (Ok x) h e = let same : b ≡ x = cc in (same ∙ h.1, h.0)
byte_same n b (Err x) h e = absurd cc

-- What 64 bits hold lies in their range.
signed_fits : (z : ℤ) → FitsSigned w64 z → IsSigned64 z
signed_fits (pos n) fits = (omega (arith, ints, fits.sfits), omega (arith, ints, fits.sfits))
signed_fits (negsuc n) fits = (omega (arith, ints, fits.sfits), omega (arith, ints, fits.sfits))

pub returns-in_err-read_signed-clause-unread : goal.returns-in_err-read_signed-clause-unread
returns-in_err-read_signed-clause-unread c =
    let none = no_call_number c.args.arch.now c.args.nr.now c.args.index.now c.args.value.now c.in_err-read_signed.ensures.unread in
    rw c.from_residual.ensures none

pub returns-clause-read : goal.returns-clause-read
returns-clause-read c =
    let nr = c.in_ok-read_signed.field-0 in
    let fits : FitsSigned w64 nr = search rules in
    let byte = byte_same c.in_ok-read_digits.field-0 c.in_ok-ok.field-0 c.try_from.result c.try_from.ensures c.in_ok-ok.ensures.value in
    rw (to_z-of_z w64 nr fits) (record {
      nr_text = c.args.nr.now;
      index_text = c.args.index.now;
      value_text = c.args.value.now;
      all = refl;
      nr_written = c.in_ok-read_signed.ensures.read;
      nr_fits = signed_fits nr fits;
      index_written = subst (λ n. IsWritten 10 c.args.index.now n) (sym byte.0) c.in_ok-read_digits.ensures.read;
      index_fits = omega (arith, byte);
      value_written = c.in_ok-read_digits-2.ensures.read;
    })
