pub mod FadedPcm
