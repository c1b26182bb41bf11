pub mod Chosen
pub mod Plans
pub mod Searched
pub mod Laws
pub mod Advised
