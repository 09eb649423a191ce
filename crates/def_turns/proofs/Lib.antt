mod FirstProofs
mod GivenProofs
