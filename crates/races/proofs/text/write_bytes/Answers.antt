use Rattle.std.proofs.Common.{◌≡◌, ◌∙◌, ◌++◌, ℕ, List, ap, codes, decimal, append_assoc}
use Rattle.std.specs.String.{string_bytes}
use Rattle.std.proofs.lemmas.Result.{on_ok_weaker}
use Rattle.text_output.specs.Digits.{hexadecimal}
use Rattle.races.specs.Texts.{address_of, bytes_text, size_of}
use Rattle.races.proofs.text.write_bytes.Goals as goal

regroup : (t a b c d : List ℕ) → (((t ++ a) ++ b) ++ c) ++ d ≡ t ++ (((a ++ b) ++ c) ++ d)
regroup t a b c d = simp append_assoc

-- the pieces, one after another
pieces : (old pushed put done address_of_it size_of_it : List ℕ) (a b address size : List ℕ) → pushed ≡ old ++ a → put ≡ pushed ++ address → done ≡ (put ++ b) ++ size → address ≡ address_of_it → size ≡ size_of_it
    → done ≡ old ++ (((a ++ address_of_it) ++ b) ++ size_of_it)
pieces old pushed put done address_of_it size_of_it a b address size first second third same_address same_size =
    third ∙ ap (λ (t : List ℕ). (t ++ b) ++ size) (second ∙ ap (λ (t : List ℕ). t ++ address) first)
    ∙ ap (λ (n : List ℕ). (((old ++ a) ++ address) ++ b) ++ n) same_size
    ∙ ap (λ (n : List ℕ). (((old ++ a) ++ n) ++ b) ++ size_of_it) same_address
    ∙ regroup old a address_of_it b size_of_it

pub returns : goal.returns
unfolding bytes_text
returns c =
    on_ok_weaker c.write_number.result
    (λ counted.
    pieces (string_bytes c.args.text.now) (string_bytes c.push_str.new.self) (string_bytes c.write_hexadecimal.new.text) (string_bytes c.write_number.new.text)
    (hexadecimal 8 (address_of c.args.race.now)) (decimal (size_of c.args.race.now.bytes)) (codes "race address=") (codes " bytes=")
    (hexadecimal 8 c.address-address.result) (decimal c.from-size.result)
    c.in_ok-push_str.ensures.bytes c.in_ok-write_hexadecimal.ensures counted (ap (hexadecimal 8) c.address-address.ensures) (ap decimal (c.from-size.ensures ∙ c.size.ensures)))
    c.write_number.ensures
