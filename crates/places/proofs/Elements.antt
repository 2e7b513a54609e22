-- A list of elements, read as the list of their numbers: its length, its entries and its parts, and what is written over it.
-- Assumes nothing.
use Rattle.std.proofs.Common.{◌≡◌, ℕ, suc, zero, ◌+◌, ◌<◌, ◌≤◌, List, ◌∷◌, map, ◌++◌, length, get_or, take, drop, refl, sym, ap, ap₂, ◌∙◌, replicate}
use Rattle.std.proofs.Math.ListN.{set}
use Rattle.std.proofs.lemmas.List.{length-map, take-map, drop-map, map-append, map-set, get_or-map}
use borrow.Rule.Slice.PartMut.{put_mid}
use Rattle.lists.specs.Tab.{tab, tab_from}
use Rattle.lists.proofs.Tabs.{Written, written_none, written-length, written_later, written_next, written_all}

fill_from : (s n : ℕ) (a : ℕ) → replicate n a ≡ tab_from s n (λ _. a)
unfolding tab_from
fill_from s zero a = refl
fill_from s (suc n) a = ap (λ l. a ∷ l) (fill_from (suc s) n a)

map-fill : {A : Type 0} (f : A → ℕ) (n : ℕ) (a : A) → map f (replicate n a) ≡ replicate n (f a)
map-fill f zero a = refl
map-fill f (suc n) a = ap (λ l. f a ∷ l) (map-fill f n a)

module _ {A : Type 0} {number : A → ℕ} {numbers : List A → List ℕ} (one_by_one : (xs : List A) → numbers xs ≡ map number xs) where
  pub numbers-length : (xs : List A) → length (numbers xs) ≡ length xs
  numbers-length xs = ap length (one_by_one xs) ∙ length-map xs number

  -- an entry
  pub numbers-get : (xs : List A) (i : ℕ) (d : A) → i < length xs → get_or (numbers xs) i 0 ≡ number (get_or xs i d)
  numbers-get xs i d h = ap (λ l. get_or l i 0) (one_by_one xs) ∙ get_or-map number xs i d 0 h

  -- the element that was read at a place: Rattle says of it that it stands there
  pub numbers-at : (xs : List A) (i : ℕ) {x : A} → x ≡ get_or xs i x → i < length xs → number x ≡ get_or (numbers xs) i 0
  numbers-at xs i {x} e h = ap number e ∙ sym (numbers-get xs i x h)

  -- parts
  pub numbers-take : (n : ℕ) (xs : List A) → numbers (take n xs) ≡ take n (numbers xs)
  numbers-take n xs = one_by_one (take n xs) ∙ sym (take-map number n xs) ∙ ap (take n) (sym (one_by_one xs))

  pub numbers-drop : (n : ℕ) (xs : List A) → numbers (drop n xs) ≡ drop n (numbers xs)
  numbers-drop n xs = one_by_one (drop n xs) ∙ sym (drop-map number n xs) ∙ ap (drop n) (sym (one_by_one xs))

  pub numbers-append : (xs ys : List A) → numbers (xs ++ ys) ≡ numbers xs ++ numbers ys
  numbers-append xs ys = one_by_one (xs ++ ys) ∙ map-append number xs ys ∙ ap₂ ◌++◌ (sym (one_by_one xs)) (sym (one_by_one ys))

  -- the part of n entries from place a on
  pub numbers-part : (a n : ℕ) (xs : List A) → numbers (take n (drop a xs)) ≡ take n (drop a (numbers xs))
  numbers-part a n xs = numbers-take n (drop a xs) ∙ ap (take n) (numbers-drop a xs)

  -- what is written over it: an entry, a part
  pub numbers-set : (xs : List A) (i : ℕ) (x : A) → numbers (set xs i x) ≡ set (numbers xs) i (number x)
  numbers-set xs i x = one_by_one (set xs i x) ∙ map-set number xs i x ∙ ap (λ l. set l i (number x)) (sym (one_by_one xs))

  pub numbers-put : (a n : ℕ) (xs part : List A) → numbers (put_mid a n xs part) ≡ put_mid a n (numbers xs) (numbers part)
  numbers-put a n xs part =
      numbers-append (take a xs) (part ++ drop n (drop a xs))
      ∙ ap₂ ◌++◌ (numbers-take a xs) (numbers-append part (drop n (drop a xs)) ∙ ap (λ l. numbers part ++ l) (numbers-drop n (drop a xs) ∙ ap (drop n) (numbers-drop a xs)))

  -- one element n times
  pub numbers-fill : (n : ℕ) (x : A) → numbers (replicate n x) ≡ tab n (λ _. number x)
  unfolding tab
  numbers-fill n x = one_by_one (replicate n x) ∙ map-fill number n x ∙ fill_from 0 n (number x)

  -- a loop that writes over a list of elements front to back, as it is seen in their numbers
  pub elements_none : {p : ℕ} {f : ℕ → ℕ} (xs : List A) → p ≤ length xs → Written p 0 f (numbers xs) (numbers xs)
  elements_none xs h = written_none (rw (numbers-length xs) h)

  pub elements-length : {p n : ℕ} {f : ℕ → ℕ} {xs ys : List A} → Written p n f (numbers xs) (numbers ys) → length ys ≡ length xs
  elements-length {xs = xs} {ys} w = sym (numbers-length ys) ∙ written-length w ∙ numbers-length xs

  pub elements_next : {p n : ℕ} {f : ℕ → ℕ} {xs ys : List A} → Written p n f (numbers xs) (numbers ys)
      → (i : ℕ) (x : A) → p + n < length xs → i ≡ p + n → number x ≡ f n → Written p (n + 1) f (numbers xs) (numbers (set ys i x))
  elements_next {xs = xs} {ys} w i x h e v =
      rw (numbers-set ys i x) (written_next w i (number x) (rw (numbers-length xs) h) e v)

  -- what is not written yet stands as it was
  pub elements_later : {p n : ℕ} {f : ℕ → ℕ} {xs ys : List A} → Written p n f (numbers xs) (numbers ys)
      → (i : ℕ) (d : A) → p + n ≤ i → i < length ys → number (get_or ys i d) ≡ get_or (numbers xs) i 0
  elements_later {ys = ys} w i d h b = sym (numbers-get ys i d b) ∙ written_later w i 0 h

  -- all is written
  pub elements_all : {n : ℕ} {f : ℕ → ℕ} {xs ys : List A} → Written 0 n f (numbers xs) (numbers ys)
      → (m : ℕ) → n ≡ m → length xs ≡ m → numbers ys ≡ tab m f
  elements_all {xs = xs} w m e h = written_all w m e (numbers-length xs ∙ h)
