-- The whole numbers ℤ are a commutative ring: the laws that the library lacks. Nothing here has to be believed.
-- Assumes nothing.
use Rattle.std.specs.Prelude.{◌≡◌, zero, suc, ℤ, pos, negsuc, neg_ℤ, ◌+ℤ◌, ◌*ℤ◌}
use Rattle.std.proofs.Common.{sym, ◌∙◌, ap}
use Rattle.std.proofs.Math.IntN.{+ℤ-suc_ℤ, +ℤ-pred_ℤ, +ℤ_idl, +ℤ_idr, +ℤ_assoc, +ℤ_comm, suc_ℤ-*ℤ, pred_ℤ-*ℤ, zero-*ℤ, *ℤ_comm, -ℤ_one, +ℤ_invr}

-- (m + n) k = m k + n k, by the successors and predecessors that n is made of
pub +ℤ-*ℤ : (m n k : ℤ) → (m +ℤ n) *ℤ k ≡ m *ℤ k +ℤ n *ℤ k
+ℤ-*ℤ m (pos zero) k = rw (+ℤ_idr m, zero-*ℤ k, +ℤ_idr)
+ℤ-*ℤ m (pos (suc n)) k =
    ap (λ (x : ℤ). x *ℤ k) (+ℤ-suc_ℤ m (pos n))
    ∙ suc_ℤ-*ℤ (m +ℤ pos n) k
    ∙ ap (λ (x : ℤ). x +ℤ k) (+ℤ-*ℤ m (pos n) k)
    ∙ +ℤ_assoc (m *ℤ k) (pos n *ℤ k) k
    ∙ ap (λ (x : ℤ). m *ℤ k +ℤ x) (sym (suc_ℤ-*ℤ (pos n) k))
+ℤ-*ℤ m (negsuc zero) k =
    ap (λ (x : ℤ). x *ℤ k) (-ℤ_one m)
    ∙ pred_ℤ-*ℤ m k
    ∙ ap (λ (x : ℤ). m *ℤ k +ℤ x)
    (sym (+ℤ_idl (neg_ℤ k)) ∙ ap (λ (x : ℤ). x +ℤ neg_ℤ k) (sym (zero-*ℤ k)) ∙ sym (pred_ℤ-*ℤ (pos zero) k))
+ℤ-*ℤ m (negsuc (suc n)) k =
    ap (λ (x : ℤ). x *ℤ k) (+ℤ-pred_ℤ m (negsuc n))
    ∙ pred_ℤ-*ℤ (m +ℤ negsuc n) k
    ∙ ap (λ (x : ℤ). x +ℤ neg_ℤ k) (+ℤ-*ℤ m (negsuc n) k)
    ∙ +ℤ_assoc (m *ℤ k) (negsuc n *ℤ k) (neg_ℤ k)
    ∙ ap (λ (x : ℤ). m *ℤ k +ℤ x) (sym (pred_ℤ-*ℤ (negsuc n) k))

-- what cancels a is -a
cancel : (a b : ℤ) → a +ℤ b ≡ pos 0 → b ≡ neg_ℤ a
cancel a b h =
    sym (+ℤ_idl b)
    ∙ ap (λ (x : ℤ). x +ℤ b) (sym (+ℤ_invr a) ∙ +ℤ_comm a (neg_ℤ a))
    ∙ +ℤ_assoc (neg_ℤ a) a b
    ∙ ap (λ (x : ℤ). neg_ℤ a +ℤ x) h
    ∙ +ℤ_idr (neg_ℤ a)

neg_ℤ-*ℤ : (m k : ℤ) → neg_ℤ m *ℤ k ≡ neg_ℤ (m *ℤ k)
neg_ℤ-*ℤ m k =
    cancel (m *ℤ k) (neg_ℤ m *ℤ k) (sym (+ℤ-*ℤ m (neg_ℤ m) k) ∙ ap (λ (x : ℤ). x *ℤ k) (+ℤ_invr m) ∙ zero-*ℤ k)

minus_one-*ℤ : (n : ℤ) → negsuc zero *ℤ n ≡ neg_ℤ n
minus_one-*ℤ n = pred_ℤ-*ℤ (pos zero) n ∙ ap (λ (x : ℤ). x +ℤ neg_ℤ n) (zero-*ℤ n) ∙ +ℤ_idl (neg_ℤ n)

pub *ℤ_assoc : (m n k : ℤ) → (m *ℤ n) *ℤ k ≡ m *ℤ (n *ℤ k)
*ℤ_assoc (pos zero) n k = ap (λ (x : ℤ). x *ℤ k) (zero-*ℤ n) ∙ zero-*ℤ k ∙ sym (zero-*ℤ (n *ℤ k))
*ℤ_assoc (pos (suc m)) n k =
    ap (λ (x : ℤ). x *ℤ k) (suc_ℤ-*ℤ (pos m) n)
    ∙ +ℤ-*ℤ (pos m *ℤ n) n k
    ∙ ap (λ (x : ℤ). x +ℤ n *ℤ k) (*ℤ_assoc (pos m) n k)
    ∙ sym (suc_ℤ-*ℤ (pos m) (n *ℤ k))
*ℤ_assoc (negsuc zero) n k = ap (λ (x : ℤ). x *ℤ k) (minus_one-*ℤ n) ∙ neg_ℤ-*ℤ n k ∙ sym (minus_one-*ℤ (n *ℤ k))
*ℤ_assoc (negsuc (suc m)) n k =
    ap (λ (x : ℤ). x *ℤ k) (pred_ℤ-*ℤ (negsuc m) n)
    ∙ +ℤ-*ℤ (negsuc m *ℤ n) (neg_ℤ n) k
    ∙ ap (λ (x : ℤ). x +ℤ neg_ℤ n *ℤ k) (*ℤ_assoc (negsuc m) n k)
    ∙ ap (λ (x : ℤ). negsuc m *ℤ (n *ℤ k) +ℤ x) (neg_ℤ-*ℤ n k)
    ∙ sym (pred_ℤ-*ℤ (negsuc m) (n *ℤ k))

pub *ℤ_one : (k : ℤ) → k *ℤ pos 1 ≡ k
*ℤ_one k = *ℤ_comm k (pos 1) ∙ suc_ℤ-*ℤ (pos zero) k ∙ ap (λ (x : ℤ). x +ℤ k) (zero-*ℤ k) ∙ +ℤ_idl k

pub *ℤ-+ℤ : (a b c : ℤ) → a *ℤ (b +ℤ c) ≡ a *ℤ b +ℤ a *ℤ c
*ℤ-+ℤ a b c =
    *ℤ_comm a (b +ℤ c)
    ∙ +ℤ-*ℤ b c a
    ∙ ap (λ (x : ℤ). x +ℤ c *ℤ a) (*ℤ_comm b a)
    ∙ ap (λ (x : ℤ). a *ℤ b +ℤ x) (*ℤ_comm c a)
